-- The product of two numbers from the highest digit of the first down: what `times_number` cites.
-- Assumes nothing.
use mathlib.Core.Path.{◌≡◌, sym, ap, ◌∙◌}
use Prim.Native.Nat.{ℕ, suc, ◌+◌, ◌-◌, ◌*◌, ◌/◌, ◌^◌, ◌≤◌, ◌<◌}
use native.Mathlib.Nat.{lt_of_lt_of_le, div-eq_of_lt}
use native.Mathlib.Omega.{arith}
use lib.Pow.{pow_mono, shr_lt, shr-shr}
use Rattle.verdict.specs.Verdict.{Where}
use Rattle.verdict.proofs.Verdict.{where_value}
use Rattle.poly.specs.Poly.{sum, times, coefficient, Degree}
use Rattle.poly.proofs.Times.{times_step, times-zero_left}
use Rattle.poly.proofs.Degree.{times_lt, degree-times, power_lt}

module _ (p q d e : ℕ) (hp : p < 2 ^ suc d) (hq : q < 2 ^ suc e) where
  -- no digit taken yet
  pub product_none : (i : ℕ) → suc d ≤ i → times (p / 2 ^ i) q ≡ 0
  product_none i l = ap (λ (x : ℕ). times x q) (div-eq_of_lt (lt_of_lt_of_le hp (pow_mono l))) ∙ times-zero_left q

  -- the digits from i on leave room for those below
  pub product_lt : (i : ℕ) → d + e ≤ 63 → 0 < i → i ≤ suc d → times (p / 2 ^ i) q < 2 ^ 63
  product_lt i room pos l =
      let size : suc d ≡ suc d - i + i = omega arith in
      lt_of_lt_of_le (times_lt (suc d - i) e (p / 2 ^ i) q (shr_lt (suc d - i) i (rw size at hp)) hq) (pow_mono {j = 63} (omega arith))

-- one digit more
pub product_next : (p q i : ℕ) → 0 < i → sum (times (p / 2 ^ i) q * 2) (coefficient p (i - 1) * q) ≡ times (p / 2 ^ (i - 1)) q
product_next p q i pos =
    let half : p / 2 ^ (i - 1) / 2 ≡ p / 2 ^ i =
    shr-shr p (i - 1) 1 ∙ ap (λ (x : ℕ). p / 2 ^ x) (let e : i - 1 + 1 ≡ i = omega arith in e) in
    sym (times_step (p / 2 ^ (i - 1)) q ∙ ap (λ (x : ℕ). sum (times x q * 2) (coefficient p (i - 1) * q)) half)

-- a product of more than 64 digits
pub product_large : {p q d e : ℕ} → Degree p d → Degree q e → 63 < d + e → times p q < 2 ^ 64 → ⊥
product_large {p} {q} {d} {e} h k l b = omega (arith, power_lt (times p q) (d + e) 64 (degree-times h k).least b)

pub times_number_settled : (p q : ℕ) {t u : ℕ} → Where (times p q < 2 ^ 64) (t ≡ times p q) (t ≡ 0)
    → Where (times p q < 2 ^ 64) (u ≡ times p q) (u ≡ 0) → t ≡ u
times_number_settled p q = where_value
