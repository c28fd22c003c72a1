-- The table is filled from the front.
use Rattle.std.proofs.Common.{◌≡◌, ℕ, ◌<◌, length, get_or}
use Rattle.tables.specs.Tables.{Part}
use Rattle.tables.proofs.parts.Given as goal

abbrev pub invariant-loop-j : goal.invariant-loop-j
invariant-loop-j l = (length l.t ≡ 3072) × ((i : ℕ) → i < l.j → Part i (get_or l.t i 0))
