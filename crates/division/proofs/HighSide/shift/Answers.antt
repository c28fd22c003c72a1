-- What is moved up loses g where its feedback is 1.
use native.Mathlib.Omega.{arith}
use Rattle.poly.proofs.Division.{remainder_high_lem}
use Rattle.poly.proofs.Shifting.{high_fed, high-shifted}
use Rattle.division.proofs.HighSide.shift.Goals as goal

pub overflow_mul-result : goal.overflow_mul-result
overflow_mul-result c = omega (arith, high_fed c.requires)

pub returns-clause-made : goal.returns-clause-made
returns-clause-made c = high-shifted c.requires

pub returns-clause-keeps : goal.returns-clause-keeps
returns-clause-keeps c = λ p v. rw (high-shifted c.requires) (remainder_high_lem p c.args.c c.requires.input c.requires.degree v)
