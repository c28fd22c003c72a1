-- The cells passed are copied.
use mathlib.Core.Path.{◌≡◌}
use lib.ListN.{length, take}
use Rattle.reader.proofs.copy_first.Given as goal

abbrev pub invariant-loop-i : goal.invariant-loop-i
invariant-loop-i l = (length l.message ≡ length l.initial.message) × (take l.i l.message ≡ take l.i l.cells)
