-- Each shift with no input multiplies by x what the remainder is of.
use Prim.Native.Nat.{◌*◌, ◌^◌}
use Rattle.poly.specs.Poly.{Remainder}
use Rattle.numbers.specs.Finding.{NoShift}
use Rattle.numbers.proofs.first_shift.Given as goal

abbrev pub invariant-loop-i : goal.invariant-loop-i
invariant-loop-i l = Remainder (l.e * 2 ^ l.i) l.code.g l.p × NoShift l.e l.code.g l.s l.i
