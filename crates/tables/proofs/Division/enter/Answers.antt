use Rattle.std.proofs.Common.{◌+◌, ◌*◌, ◌∙◌, arith, length-set}
use Rattle.codes.proofs.Row.{count_le}
use Rattle.tables.specs.Tables.{highest}
use Rattle.tables.proofs.Plates.{plate_small}
use Rattle.tables.proofs.Entering.{family_cells, entered_more, entered_apart}
use Rattle.tables.proofs.Division.enter.Goals as goal

pub pattern_remainder-s-requires : goal.pattern_remainder-s-requires
pattern_remainder-s-requires c =
    let p = c.args.plate in
    omega (arith, c.patterns-k-end.ensures, count_le p.n (highest p.f))

pub overflow_cast-t : goal.overflow_cast-t
overflow_cast-t c =
    let p = c.args.plate in
    omega (arith, c.patterns-k-end.ensures, count_le p.n (highest p.f), family_cells p.family)

pub loop-k-preserved : goal.loop-k-preserved
loop-k-preserved c =
    let l = c.loop-k in
    let p = c.args.plate in
    let s = c.pattern_remainder-s.result in
    let v = c.pattern_remainder-s.ensures in
    let small = plate_small p v in (
      length-set l.t (p.f * 2048 + s) l.k ∙ l.invariant.0,
      entered_more p.f l.t l.k s p.n p.family.row small l.invariant.0 (rw p.generator at v) l.invariant.1,
      λ i u b d o. entered_apart p.f l.t l.k s small i u d o ∙ l.invariant.2 i u b d o,
    )
