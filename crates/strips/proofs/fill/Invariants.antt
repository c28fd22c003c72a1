-- Each read goes on where the one before ended.
use Rattle.std.proofs.Common.{length, ◌-◌, ◌≤◌}
use Rattle.strips.proofs.fill.Given as goal

abbrev pub invariant-loop-n : goal.invariant-loop-n
invariant-loop-n g l = l.n ≤ length l.block

abbrev pub decreases-loop-n : goal.decreases-loop-n
decreases-loop-n g l = length l.initial.block - l.n
