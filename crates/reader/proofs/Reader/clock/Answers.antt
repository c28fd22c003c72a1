-- The checks 11 and 7 in their order, and then a load or a look.
use mathlib.Core.Logic.{inl, inr}
use mathlib.Core.Path.{refl}
use Rattle.reader.proofs.Form.{opened_own, clock_done, clock_given_back}
use native.Mathlib.Omega.{arith}
use Rattle.reader.proofs.Reader.clock.Goals as goal

pub returns-then-cell-gt1 : goal.returns-then-cell-gt1
returns-then-cell-gt1 c =
    clock_given_back _ _
    (inr (
      (opened_own c.in-Some.ensures.some c.in-Some.formed.form, c.if-self.false),
      inl (λ p. let n : ⊥ = grind (arith, p.0, p.1) in n, refl),
    ))
    c.refused-then-cell-gt1.ensures

pub returns-then-self-3 : goal.returns-then-self-3
returns-then-self-3 c =
    let e = c.in-Some.ensures.some in
    let done = rw e at c.load.ensures in
    clock_done (opened_own e c.in-Some.formed.form) c.if-self.false (omega arith, λ b. let n : ⊥ = omega arith in absurd n) done.0
    (λ l. done.1, λ b. let n : ⊥ = omega arith in absurd n)

pub returns-else-self-3 : goal.returns-else-self-3
returns-else-self-3 c =
    let e = c.in-Some.ensures.some in
    let done = rw e at c.give.ensures in
    clock_done (opened_own e c.in-Some.formed.form) c.if-self.false (omega arith, λ b. omega (arith, c.if-cell-ne0.either)) done.0
    (λ l. let n : ⊥ = omega arith in absurd n, λ b. done.1)
