-- An even remainder is halved, and an odd one with g, which is odd too.
use native.Mathlib.Omega.{arith}
use Rattle.reader.proofs.Rounds.{half_even, half_odd}
use Rattle.reader.proofs.halved.Goals as goal

pub returns-then-s-eq0 : goal.returns-then-s-eq0
returns-then-s-eq0 c = λ p h. half_even c.requires h.divided.lower.degree p h c.if-s-eq0.true

pub returns-else-s-eq0 : goal.returns-else-s-eq0
returns-else-s-eq0 c = λ p h. half_odd c.requires h.divided.lower.degree p h (omega arith)
