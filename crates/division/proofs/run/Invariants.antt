-- After some cells the register holds the remainder of those cells.
use Prim.Native.Nat.{◌*◌}
use lib.ListN.{take}
use Rattle.poly.specs.Poly.{Remainder}
use Rattle.poly.specs.Cells.{poly}
use Rattle.division.proofs.run.Given as goal

abbrev pub invariant-loop-c : goal.invariant-loop-c
invariant-loop-c g l = Remainder (poly (take l.c-index l.dividend) * g.S.Side.factor l.r) l.g l.s
