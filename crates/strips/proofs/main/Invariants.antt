-- Block after block.
use Rattle.std.proofs.Common.{length, ◌≡◌}
use Rattle.strips.proofs.main.Given as goal

abbrev pub invariant-loop : goal.invariant-loop
invariant-loop l = (length l.block ≡ 262144) × (length l.out ≡ 1048640)
