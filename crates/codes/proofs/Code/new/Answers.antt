-- Each test is what its check asks.
use mathlib.Core.Logic.{inl, inr}
use mathlib.Core.Path.{refl}
use native.Mathlib.Omega.{arith}
use Rattle.std.proofs.lemmas.Grind.{merely}
use Rattle.poly.proofs.Degree.{degree_unique}
use Rattle.codes.proofs.Checking.{of_code, generator_pos, generator_given, whole_divided, nothing_left, left_nothing}
use Rattle.codes.proofs.Code.new.Goals as goal

pub returns-then-whole-ne0-clause-checks : goal.returns-then-whole-ne0-clause-checks
returns-then-whole-ne0-clause-checks c =
    let g = (rw c.in_ok-r.ensures.ok_part at c.generator_degree.ensures.some).0 in
    let w = whole_divided (omega arith) g c.divide_number-whole.ensures in
    inr ((omega arith, omega arith), inr (g, inl ((λ h. c.if-whole-ne0.true (left_nothing w (generator_pos g) h)), refl)))

pub invariant_of-result : goal.invariant_of-result
invariant_of-result c =
    let g = rw c.in_ok-r.ensures.ok_part at c.generator_degree.ensures.some in
    record { passed = merely (of_code (record { least = omega arith; most = omega arith; generator = g.0; divides = nothing_left (whole_divided (omega arith) g.0 c.divide_number-whole.ensures) c.if-whole-ne0.false })); given = generator_given (omega arith) (omega arith) g.0 g.1; room = rw (degree_unique g.1 g.0.degree) g.0.room }

pub returns-clause-checks : goal.returns-clause-checks
returns-clause-checks c =
    let g = (rw c.in_ok-r.ensures.ok_part at c.generator_degree.ensures.some).0 in
    let w = whole_divided (omega arith) g c.divide_number-whole.ensures in
    inr ((omega arith, omega arith), inr (g, inr (nothing_left w c.if-whole-ne0.false, refl)))
