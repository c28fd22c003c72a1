-- The cells from place i on are the low digits of p, and what is left of p are the digits above them.
use mathlib.Core.Path.{◌≡◌}
use Prim.Native.Nat.{◌-◌, ◌/◌, ◌^◌}
use lib.ListN.{length, drop}
use Rattle.poly.specs.Cells.{cells}
use Rattle.cells.proofs.write_number.Given as goal

abbrev pub invariant-loop-i : goal.invariant-loop-i
invariant-loop-i l =
    (drop l.i l.word ≡ cells (length l.initial.word - l.i) l.p) × (l.rest ≡ l.p / 2 ^ (length l.initial.word - l.i))
