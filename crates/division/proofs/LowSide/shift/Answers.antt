use native.Mathlib.Nat.{mul-one}
use Rattle.poly.proofs.Division.{remainder_low_lem}
use Rattle.division.proofs.LowSide.shift.Goals as goal

pub returns-clause-made : goal.returns-clause-made
returns-clause-made c = c.low_shift.ensures.holds c.requires

pub returns-clause-keeps : goal.returns-clause-keeps
returns-clause-keeps c = λ p v. rw (mul-one, c.low_shift.ensures.holds c.requires) (remainder_low_lem c.args.c c.requires.input c.requires.degree (rw mul-one at v))
