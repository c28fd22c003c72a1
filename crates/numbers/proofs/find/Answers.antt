-- The pattern of remainder 0 is the empty one; the single cells are the shifts of 1, and the pairs with the two ends those of 3.
use mathlib.Core.Path.{◌≡◌}
use native.Mathlib.Nat.{one-mul}
use native.Mathlib.Omega.{arith}
use Rattle.poly.proofs.Division.{remainder_zero}
use Prim.Native.Nat.{◌-◌}
use Rattle.codes.specs.Mending.{none, single, pair, ends}
use Rattle.codes.specs.declared.Code as type
use Rattle.codes.proofs.Checking.{Code, generator_pos, checked}
use Rattle.numbers.proofs.Searching.{three_shift, ends_round, no_pattern, one_shl, three_shl}
use Rattle.numbers.proofs.find.Goals as goal

code : (x : type.Code) → Code x.n x.g
code x = checked x.given x.passed

pub returns-then-s-eq0 : goal.returns-then-s-eq0
returns-then-s-eq0 c = (none, rw c.if-s-eq0.true (remainder_zero (generator_pos (code c.args.code).generator)))

pub returns-then-rule-eq0 : goal.returns-then-rule-eq0
returns-then-rule-eq0 c = no_pattern (code c.args.code) c.args.rule c.if-s-eq0.false (λ b. let f : ⊥ = omega arith in absurd f) (λ b. let f : ⊥ = omega arith in absurd f)

pub returns-in-Some : goal.returns-in-Some
returns-in-Some c =
    let i = c.in-Some.i in
    let x = c.in-Some.ensures in
    rw (one_shl i (omega (arith, x.within, c.args.code.given.most))) (single i x.within (omega arith), rw one-mul at x.at)

pub returns-then-rule-eq1 : goal.returns-then-rule-eq1
returns-then-rule-eq1 c = no_pattern (code c.args.code) c.args.rule c.if-s-eq0.false (λ b. c.in_default.ensures) (λ b. let f : ⊥ = omega arith in absurd f)

pub returns-in_err-i : goal.returns-in_err-i
returns-in_err-i c = rw c.from_residual.ensures (no_pattern (code c.args.code) c.args.rule c.if-s-eq0.false (λ b. c.in_default.ensures) (λ b. c.in_err-i.ensures))

pub returns-then-i-n : goal.returns-then-i-n
returns-then-i-n c =
    let i = c.in_ok-i.i in
    let x = c.in_ok-i.ensures in
    rw (three_shl i (omega (arith, x.within, c.args.code.given.most))) (pair i (omega arith) (omega arith), rw (three_shift i) at x.at)

pub returns : goal.returns
returns c =
    let n = c.args.code.n in
    let x = c.in_ok-i.ensures in
    let last : c.in_ok-i.i ≡ n - 1 = omega (arith, x.within) in
    rw (one_shl (n - 1) (omega (arith, c.args.code.given.most))) (ends (omega arith), ends_round (code c.args.code) (rw last at x.at))
