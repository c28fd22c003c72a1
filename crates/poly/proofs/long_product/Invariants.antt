-- t is the product of the digits taken so far, the highest first.
use mathlib.Core.Path.{◌≡◌}
use Prim.Native.Nat.{suc, ◌/◌, ◌^◌, ◌≤◌}
use Rattle.poly.specs.Poly.{times}
use Rattle.poly.proofs.long_product.Given as goal

abbrev pub invariant-loop-i : goal.invariant-loop-i
invariant-loop-i l = (l.i ≤ suc l.d) × (l.t ≡ times (l.p / 2 ^ l.i) l.q)
