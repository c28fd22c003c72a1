-- The remainder of a power from that of the power below it, and of two places from those of each.
use native.Mathlib.Omega.{arith}
use mathlib.Core.Path.{◌≡◌}
use Prim.Native.Nat.{◌+◌, ◌-◌, ◌*◌}
use Rattle.poly.proofs.Shifting.{zero_ready}
use Rattle.codes.proofs.Row.{first_remainder, one_remainder, single_remainder, pair_remainder, ends_remainder}
use Rattle.codes.proofs.Code.next_remainder.Goals as goal

pub returns-in-0 : goal.returns-in-0
returns-in-0 c = let s = c.args.self in rw c.in-0.is (first_remainder s.n s.given.degree)

pub returns-in-1 : goal.returns-in-1
returns-in-1 c = let s = c.args.self in rw c.in-1.is (one_remainder s.n s.given.degree (omega (arith, s.given.least)) s.given.one)

pub returns-in_default : goal.returns-in_default
returns-in_default c =
    let s = c.args.self in
    let l = c.requires.1.at (c.args.k - 1) (omega arith) in
    single_remainder s.n s.given.degree c.args.k (omega arith) (omega arith) l (c.low_shift.ensures.holds (zero_ready s.given.degree s.given.few l))

pub returns-in_default-2 : goal.returns-in_default-2
returns-in_default-2 c =
    let s = c.args.self in
    let k = c.args.k in
    pair_remainder s.n s.given.degree k (omega arith) (omega arith) (c.requires.1.at (k - s.n + 1) (omega arith)) (c.requires.1.at (k - s.n) (omega arith))

pub returns-in_default-3 : goal.returns-in_default-3
returns-in_default-3 c =
    let s = c.args.self in
    let last : c.args.k ≡ 2 * s.n = omega arith in
    rw last (ends_remainder s.n s.given.degree (omega (arith, s.given.least)) (c.requires.1.at s.n (omega arith)) (c.requires.1.at 1 (omega arith)))
