-- What is kept lies in the input's room.
use Prim.Native.Nat.{◌≤◌}
use lib.ListN.{length}
use Rattle.calls.proofs.run.Given as goal

abbrev pub invariant-loop : goal.invariant-loop
invariant-loop g l = l.kept ≤ length l.input
