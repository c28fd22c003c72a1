-- What is left of the line falls.
use lib.ListN.{length}
use Rattle.calls.proofs.fields.Fields.number.Given as goal

abbrev pub decreases-loop-first : goal.decreases-loop-first
decreases-loop-first l = length l.rest
