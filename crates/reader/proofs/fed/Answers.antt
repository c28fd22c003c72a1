-- A digit as a factor.
use mathlib.Core.Path.{◌≡◌, sym}
use Prim.Native.Nat.{◌%◌}
use native.Mathlib.Nat.{zero-mul}
use native.Mathlib.Omega.{arith}
use Rattle.poly.proofs.Sum.{sum-zero}
use Rattle.reader.proofs.fed.Goals as goal

pub returns-else-p-eq1 : goal.returns-else-p-eq1
returns-else-p-eq1 c = let z : c.args.p % 2 ≡ 0 = omega arith in rw (z, zero-mul) (sym (sum-zero c.args.cell))
