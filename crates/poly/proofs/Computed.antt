-- Degree, quotient and remainder as they are computed, for tests that are run: the laws are in `Degree` and `Division`.
-- Assumes nothing.
use Prim.Native.Nat.{ℕ, suc, pred, ◌+◌, ◌*◌, ◌/◌, ◌^◌}
use Rattle.poly.specs.Poly.{horner}
use Rattle.poly.specs.Shifts.{reduce, low}

-- The degree: one less than the count of digits, and 0 for p = 0.
unfoldable pub degree : ℕ → ℕ
degree p = pred (horner (λ (n c : ℕ). suc n) 0 p)

-- Long division: what there is so far, the next digit c of the dividend brought down, and all the digits of p.
pub record Division : Type 0 where
  pub quotient : ℕ
  pub remainder : ℕ

unfoldable pub bring_down : ℕ → ℕ → Division → ℕ → Division
unfolding reduce
bring_down r g v c =
    record { quotient = v.quotient * 2 + (v.remainder * 2 + c) / 2 ^ r; remainder = low r g v.remainder c }

unfoldable pub divide : ℕ → ℕ → Division
unfolding degree bring_down
divide p g = horner (bring_down (degree g) g) (record { quotient = 0; remainder = 0 }) p
