-- By what stands at the place.
use Rattle.std.proofs.Common.{◌≡◌, ◌*◌, arith}
use Rattle.codes.proofs.Row.{first_remainder, pair_remainder, ends_remainder}
use Rattle.tables.proofs.Plates.{plate_degree, plate_long}
use Rattle.tables.proofs.Division.pattern_remainder.Goals as goal

pub returns-in-0 : goal.returns-in-0
returns-in-0 c =
    let p = c.args.plate in
    rw c.in-0.is (first_remainder p.n (plate_degree p))

pub returns-in_default-2 : goal.returns-in_default-2
returns-in_default-2 c =
    let p = c.args.plate in
    pair_remainder p.n (plate_degree p) c.args.k (omega arith) (omega arith) c.single-in_default-2.ensures c.single-in_default-2-2.ensures

pub returns-in_default-3 : goal.returns-in_default-3
returns-in_default-3 c =
    let p = c.args.plate in
    let last : c.args.k ≡ 2 * p.n = omega arith in
    rw last (ends_remainder p.n (plate_degree p) (omega (arith, plate_long p)) c.single-in_default-3.ensures c.single-in_default-3-2.ensures)
