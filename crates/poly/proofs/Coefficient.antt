-- The coefficients of a polynomial: of sums and shifts, and that they make the polynomial.
-- Assumes nothing.
use mathlib.Core.Path.{◌≡◌, sym, ap, ◌∙◌}
use mathlib.Core.Logic.{◌⊎◌, inl, inr}
use Prim.Native.Nat.{ℕ, suc, ◌+◌, ◌-◌, ◌*◌, ◌/◌, ◌%◌, ◌^◌, ◌≤◌, ◌<◌}
use native.Mathlib.Decide.{dec_lt, ℕ_discrete}
use native.Mathlib.Nat.{zero-mul, mul_assoc, one-mul, zero-div, div-one, div-add-mod', div-eq_of_lt, eq-zero-or-pos, lt_of_lt_of_le, le_refl, mod-lt}
use native.Mathlib.Numerals.{one-add, add-one}
use native.Mathlib.Omega.{arith}
use lib.Arith.{digits_div, digits_mod}
use lib.Bits.{shifted_even}
use lib.Dec.{lit<}
use lib.Pow.{pow-add, pow-lt, pow_mono, shr-shr, shl-shr}
use Rattle.poly.specs.Poly.{sum, coefficient}
use Rattle.poly.proofs.Computed.{degree}
use Rattle.poly.proofs.Sum.{sum-div, sum-mod, sum_self, sum-zero_eq, on_digit}
use Rattle.poly.proofs.Degree.{degree_top, degree_of_lem}

-- one or the other
pub lt_or_le : (a b : ℕ) → (a < b) ⊎ (b ≤ a)
lt_or_le a b = go (dec_lt a b)
  where
    go : Dec (a < b) → (a < b) ⊎ (b ≤ a)
    go (yes h) = inl h
    go (no h) = inr (omega (arith, h))

-- 0 or 1
pub coefficient_lt : (p i : ℕ) → coefficient p i < 2
coefficient_lt p i = mod-lt (p / 2 ^ i) (lit< tt)

-- coefficients add up
pub coefficient-sum : (p q i : ℕ) → coefficient (sum p q) i ≡ sum (coefficient p i) (coefficient q i)
coefficient-sum p q i = rw (sum-div p q i) (sum-mod (p / 2 ^ i) (q / 2 ^ i) 1)

-- x p + c
pub coefficient-zero : (p c : ℕ) → c < 2 → coefficient (p * 2 + c) 0 ≡ c
coefficient-zero p c h = rw div-one (digits_mod p h)

pub div-suc : (p c i : ℕ) → c < 2 → (p * 2 + c) / 2 ^ suc i ≡ p / 2 ^ i
div-suc p c i h = rw (← (one-add i), ← (shr-shr (p * 2 + c) 1 i), digits_div p h)

pub coefficient-suc : (p c i : ℕ) → c < 2 → coefficient (p * 2 + c) (suc i) ≡ coefficient p i
coefficient-suc p c i h = ap (λ (x : ℕ). x % 2) (div-suc p c i h)

-- the digits from i on: those from i + 1 on, and digit i
pub div-digit : (p i : ℕ) → p / 2 ^ suc i * 2 + coefficient p i ≡ p / 2 ^ i
div-digit p i = rw (← (add-one i), ← (shr-shr p i 1)) (div-add-mod' (p / 2 ^ i) 2)

-- a digit as a factor
pub coefficient-digit : (c p i : ℕ) → c < 2 → coefficient (c * p) i ≡ c * coefficient p i
coefficient-digit c p i = on_digit (λ (c : ℕ). coefficient (c * p) i ≡ c * coefficient p i) (simp (zero-mul, zero-div)) (simp one-mul) c

-- x^d c has no power below x^d
pub coefficient_under : {i d : ℕ} (c : ℕ) → i < d → coefficient (c * 2 ^ d) i ≡ 0
coefficient_under {i} {d} c l =
    let j = d - suc i in
    let place : d ≡ suc j + i = omega arith in
    rw (place, pow-add 2 (suc j) i, ← (mul_assoc c (2 ^ suc j) (2 ^ i)), shl-shr (c * 2 ^ suc j) i) (shifted_even c j)

-- a number below 2 ^ d has no power from x^d on
pub coefficient_past : (p d i : ℕ) → p < 2 ^ d → d ≤ i → coefficient p i ≡ 0
coefficient_past p d i l b = ap (λ (x : ℕ). x % 2) (div-eq_of_lt (lt_of_lt_of_le l (pow_mono b)))

-- polynomials with the same coefficients are equal
coefficients_none : (p : ℕ) → ((i : ℕ) → coefficient p i ≡ 0) → p ≡ 0
coefficients_none p h = go (eq-zero-or-pos p)
  where
    go : (p ≡ 0) ⊎ (0 < p) → p ≡ 0
    go (inl e) = e
    go (inr k) = let one : ◌≡◌ {A = ℕ} 1 0 = rw (degree_top (degree_of_lem p k)) at (h (degree p)) in omega arith

pub coefficients_same : (p q : ℕ) → ((i : ℕ) → coefficient p i ≡ coefficient q i) → p ≡ q
coefficients_same p q h =
    sum-zero_eq
    (coefficients_none (sum p q) λ i.
    coefficient-sum p q i ∙ ap (λ (x : ℕ). sum x (coefficient q i)) (h i) ∙ sum_self (coefficient q i))

-- ---- the places of x^j, and of x^j + x^k

-- x^j has no other place
pub power_other : (j i : ℕ) → (i ≡ j → ⊥) → coefficient (2 ^ j) i ≡ 0
power_other j i ne = go (lt_or_le i j)
  where
    go : (i < j) ⊎ (j ≤ i) → coefficient (2 ^ j) i ≡ 0
    go (inl l) = rw (one-mul (2 ^ j)) at (coefficient_under 1 l)
    go (inr l) = coefficient_past (2 ^ j) (suc j) i (pow-lt (le_refl (suc j))) (omega (arith, ne))

-- a place of x^j
pub power_place : (j i : ℕ) → coefficient (2 ^ j) i ≡ 1 → i ≡ j
power_place j i h = go (ℕ_discrete i j)
  where
    go : Dec (i ≡ j) → i ≡ j
    go (yes e) = e
    go (no f) = let n : ⊥ = omega (arith, power_other j i f) in absurd n

-- a place of x^j + x^k
pub pair_place : (j k i : ℕ) → coefficient (sum (2 ^ j) (2 ^ k)) i ≡ 1 → (i ≡ j) ⊎ (i ≡ k)
pair_place j k i h = go (ℕ_discrete i j)
  where
    go : Dec (i ≡ j) → (i ≡ j) ⊎ (i ≡ k)
    go (yes e) = inl e
    go (no f) = inr (power_place k i (sym (ap (λ (x : ℕ). sum x (coefficient (2 ^ k) i)) (power_other j i f)) ∙ sym (coefficient-sum (2 ^ j) (2 ^ k) i) ∙ h))
