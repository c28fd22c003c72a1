use mathlib.Core.Path.{◌≡◌}
use Prim.Native.Nat.{◌-◌}
use native.Mathlib.Nat.{div-eq_of_lt}
use native.Mathlib.Omega.{arith}
use borrow.Author.Rules.{rules}
use lib.Count.{count_leading_zeros, leading_length}
use lib.Pow.{pow_pos, pow_mono}
use Rattle.poly.specs.Poly.{coefficient}
use Rattle.poly.specs.Shifts.{Ready, reduce}
use Rattle.poly.proofs.Degree.{degree_pos}
use Rattle.poly.proofs.Division.{divided_lower, lower_zero}
use Rattle.poly.proofs.Shifting.{digit_ready, quotient_fits, digit_divided}
use Rattle.poly.proofs.long_division.Goals as goal
use Rattle.poly.proofs.long_division.Goals.{In-loop-i}

pub loop-i-init : goal.loop-i-init
loop-i-init c =
    let p = c.args.p in
    let k = leading_length 64 p (search rules) in
    let e : 64 - count_leading_zeros 64 p ≡ k.0 = omega (arith, k.1) in
    (omega arith, pow_pos _, rw (e, div-eq_of_lt k.2) (divided_lower (lower_zero (degree_pos c.requires.1))))

-- the next digit can be brought down
ready : (c : In-loop-i)
    → Ready c.args.r c.args.g c.loop-i.s (coefficient c.args.p (c.loop-i.i - 1))
ready c =
    let l = c.loop-i in
    digit_ready c.args.p l.i c.requires.1 c.requires.0 (omega arith) l.invariant.2

pub overflow_add-q : goal.overflow_add-q
overflow_add-q c =
    let l = c.loop-i in
    omega (arith, pow_mono {i = 64 - (l.i - 1)} {j = 64} (omega arith), quotient_fits c.args.p l.i c.requires.1 c.requires.0 (omega arith) l.invariant.2 l.invariant.0 l.invariant.1)

pub loop-i-preserved : goal.loop-i-preserved
unfolding reduce
loop-i-preserved c =
    let l = c.loop-i in (
      omega arith,
      quotient_fits c.args.p l.i c.requires.1 c.requires.0 (omega arith) l.invariant.2 l.invariant.0 l.invariant.1,
      digit_divided c.args.p l.i c.requires.1 c.requires.0 (omega arith) l.invariant.2,
    )
