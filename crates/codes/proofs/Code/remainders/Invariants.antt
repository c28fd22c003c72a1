-- The row is filled from the front.
use Rattle.codes.specs.Row.{Remainders}
use Rattle.codes.proofs.Code.remainders.Given as goal

abbrev pub invariant-loop-k : goal.invariant-loop-k
invariant-loop-k l = Remainders l.self.n l.self.g l.k l.t
