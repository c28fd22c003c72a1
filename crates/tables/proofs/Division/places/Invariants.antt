-- Family after family.
use Rattle.tables.proofs.Entering.{Filled}
use Rattle.tables.proofs.Division.places.Given as goal

abbrev pub invariant-loop-f : goal.invariant-loop-f
invariant-loop-f l = Filled l.f l.t
