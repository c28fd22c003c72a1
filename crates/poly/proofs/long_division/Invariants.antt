-- q and s are quotient and remainder of the digits taken so far, the highest first.
use Prim.Native.Nat.{◌-◌, ◌/◌, ◌^◌, ◌≤◌, ◌<◌}
use Rattle.poly.specs.Poly.{Divided}
use Rattle.poly.proofs.long_division.Given as goal

abbrev pub invariant-loop-i : goal.invariant-loop-i
invariant-loop-i l = (l.i ≤ 64) × (l.q < 2 ^ (64 - l.i)) × Divided (l.p / 2 ^ l.i) l.g l.q l.s
