-- No pair passed collides; at the end none does, and a pair that collides refutes carrying.
use mathlib.Core.Bool.{true}
use mathlib.Core.Path.{◌≡◌}
use Prim.Native.Nat.{ℕ, ◌<◌}
use lib.ListN.{get_or}
use Rattle.codes.proofs.Code.carries.Given as goal

abbrev pub invariant-loop-i : goal.invariant-loop-i
invariant-loop-i l = (l.carried ≡ true) × ((x : ℕ) → x < l.i → get_or l.t x 0 ≡ get_or l.t l.j 0 → ⊥)

abbrev pub invariant-pairs : goal.invariant-pairs
invariant-pairs l = (l.carried ≡ true) × ((y : ℕ) → y < l.j → (x : ℕ) → x < y → get_or l.t x 0 ≡ get_or l.t y 0 → ⊥)
