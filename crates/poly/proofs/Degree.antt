-- Bounds and degrees: of sums, of products, and how to find one.
-- Assumes nothing.
use mathlib.Core.Path.{◌≡◌, sym, ap, ◌∙◌}
use mathlib.Core.Logic.{◌⊎◌, inl, inr}
use Prim.Native.Nat.{ℕ, zero, suc, pred, ◌+◌, ◌-◌, ◌*◌, ◌/◌, ◌%◌, ◌^◌, ◌≤◌, ◌<◌}
use native.Mathlib.Nat.{zero-mul, one-mul, suc-add, div-eq_of_lt, div-eq_of_lt-le, eq-zero-or-pos, lt_of_lt_of_le, lt_of_not-le, mod-lt, not-suc-le-zero}
use native.Mathlib.Omega.{arith}
use lib.Arith.{bin_ind, lt-one}
use lib.Count.{count_leading_zeros, leading_top}
use lib.Dec.{lit<}
use lib.Pow.{pow_pos, pow_mono, split, shr-shr, shl-shr}
use Rattle.poly.specs.Poly.{sum, times, horner, Degree}
use Rattle.poly.proofs.Computed.{degree}
use Rattle.poly.proofs.Sum.{sum_lt, sum-div, sum_split, on_digit}
use Rattle.poly.proofs.Horner.{horner-suc}
use Rattle.poly.proofs.Times.{times_step, times-zero_left, times-sum_left, times_power_left}

-- i digits times j + 1 digits are i + j digits
pub times_lt : (i j p q : ℕ) → p < 2 ^ i → q < 2 ^ suc j → times p q < 2 ^ (i + j)
times_lt zero j p q hp hq = rw (lt-one hp, times-zero_left) (pow_pos (0 + j))
times_lt (suc i) j p q hp hq =
    let high : times (p / 2) q * 2 < 2 ^ suc (i + j) = omega (arith, times_lt i j (p / 2) q (omega arith) hq) in
    let wide : 2 ^ suc j ≤ 2 ^ suc (i + j) = pow_mono (omega arith) in
    let low : p % 2 * q < 2 ^ suc (i + j) =
    on_digit (λ (c : ℕ). c * q < 2 ^ suc (i + j)) (rw zero-mul (pow_pos (suc (i + j)))) (rw one-mul (omega arith)) (p % 2) (mod-lt p (lit< tt)) in
    rw (suc-add, times_step) (sum_lt (suc (i + j)) (times (p / 2) q * 2) (p % 2 * q) high low)

-- a number between two powers keeps them in order
pub power_lt : (p d e : ℕ) → 2 ^ d ≤ p → p < 2 ^ e → d < e
power_lt p d e h k = lt_of_not-le λ (l : e ≤ d). let n : ⊥ = omega (arith, pow_mono l) in n

-- nothing stands from digit d on
pub high_zero : (p d : ℕ) → p / 2 ^ d ≡ 0 → p < 2 ^ d
high_zero p d e = let whole : 0 * 2 ^ d + p % 2 ^ d ≡ p = rw e at (split p d) in omega (arith, mod-lt p (pow_pos d))

-- degree d: what stands from digit d on is 1
pub degree_top : {p d : ℕ} → Degree p d → p / 2 ^ d ≡ 1
degree_top {p} {d} h = div-eq_of_lt-le {k = 1} (2 ^ d) (omega arith) (omega arith)

pub top_degree : (p d : ℕ) → p / 2 ^ d ≡ 1 → Degree p d
top_degree p d e = let whole : 1 * 2 ^ d + p % 2 ^ d ≡ p = rw e at (split p d) in omega (arith, mod-lt p (pow_pos d))

-- a polynomial with a degree is not 0
pub degree_pos : {p d : ℕ} → Degree p d → 0 < p
degree_pos {d = d} h = lt_of_lt_of_le (pow_pos d) h.least

-- a polynomial has one degree
pub degree_unique : {p d e : ℕ} → Degree p d → Degree p e → d ≡ e
degree_unique {p} {d} {e} h k = omega (arith, power_lt p d (suc e) h.least k.below, power_lt p e (suc d) k.least h.below)

-- the degree of a product
pub degree-times : {p q d e : ℕ} → Degree p d → Degree q e → Degree (times p q) (d + e)
degree-times {p} {q} {d} {e} h k =
    let low : times (p % 2 ^ d) q < 2 ^ (d + e) = times_lt d e (p % 2 ^ d) q (mod-lt p (pow_pos d)) k.below in
    let high : q * 2 ^ d / 2 ^ (d + e) ≡ 1 = sym (shr-shr (q * 2 ^ d) d e) ∙ ap (λ (x : ℕ). x / 2 ^ e) (shl-shr q d) ∙ degree_top k in
    let whole : sum (2 ^ d) (p % 2 ^ d) ≡ p = simp (degree_top h, one-mul) at (sum_split d p) in
    top_degree (times p q) (d + e)
    (ap (λ (x : ℕ). times x q / 2 ^ (d + e)) (sym whole)
    ∙ simp (times-sum_left, times_power_left, sum-div, high, div-eq_of_lt low))

-- every polynomial but 0 has a degree, and `degree` finds it
size : ℕ → ℕ
size = horner (λ (n c : ℕ). suc n) 0

-- one digit more than the half has
size_half : (p : ℕ) → 0 < p → size p ≡ suc (size (p / 2))
unfolding size
size_half zero h = absurd (not-suc-le-zero h)
size_half (suc p) h = horner-suc (λ (n c : ℕ). suc n) 0 p

-- so the degree is one more than that of the half
degree_half : (p : ℕ) → 0 < p / 2 → degree p ≡ suc (degree (p / 2))
unfolding degree size
degree_half p h = ap pred (size_half p (omega arith)) ∙ size_half (p / 2) h ∙ ap suc (ap pred (sym (size_half (p / 2) h)))

-- down to 1
degree_one : (p : ℕ) → 0 < p → p / 2 ≡ 0 → degree p ≡ 0
unfolding degree size
degree_one p h e = ap pred (size_half p h) ∙ ap size e

pub degree_of_lem : (p : ℕ) → 0 < p → Degree p (degree p)
degree_of_lem = bin_ind (λ (p : ℕ). 0 < p → Degree p (degree p)) (λ h. absurd (not-suc-le-zero h)) λ p ih h. go p h ih (eq-zero-or-pos (p / 2))
  where
    go : (p : ℕ) → 0 < p → (0 < p / 2 → Degree (p / 2) (degree (p / 2))) → (p / 2 ≡ 0) ⊎ (0 < p / 2) → Degree p (degree p)
    go p h ih (inl e) = rw (degree_one p h e) (omega arith)
    go p h ih (inr k) = let t = ih k in rw degree_half (omega arith)

-- the degree by the leading zeros of a number of k digits, of which not all are zeros: at 64 digits it is `63 - count_leading_zeros 64 p`
pub leading_degree : (k p : ℕ) → 0 < p → p < 2 ^ k → Degree p (k - 1 - count_leading_zeros k p)
leading_degree k p h l =
    let t = leading_top k p h l in
    let place : k - 1 - count_leading_zeros k p ≡ t.0 = omega arith in
    rw place (record { least = t.2; below = t.3 })
