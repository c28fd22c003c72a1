-- p is the number that the cells so far stand for.
use mathlib.Core.Path.{◌≡◌}
use lib.ListN.{take}
use Rattle.poly.specs.Cells.{poly}
use Rattle.cells.proofs.number_of.Given as goal

abbrev pub invariant-loop-c : goal.invariant-loop-c
invariant-loop-c l = l.p ≡ poly (take l.c-index l.word)
