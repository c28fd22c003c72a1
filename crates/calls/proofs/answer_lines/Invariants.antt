-- What is left of the input falls.
use Prim.Native.Nat.{◌≤◌}
use lib.ListN.{length}
use Rattle.calls.proofs.answer_lines.Given as goal

abbrev pub invariant-loop-end : goal.invariant-loop-end
invariant-loop-end g l = length l.rest ≤ length l.input

abbrev pub decreases-loop-end : goal.decreases-loop-end
decreases-loop-end g l = length l.rest
