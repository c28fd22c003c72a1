-- A register that is ready stays within its digits: what the shifts on numbers cite, and that each gives one number.
-- Assumes nothing.
use mathlib.Core.Path.{◌≡◌, sym, ap, ◌∙◌}
use Prim.Native.Nat.{ℕ, suc, ◌+◌, ◌-◌, ◌*◌, ◌/◌, ◌%◌, ◌^◌, ◌≤◌, ◌<◌}
use native.Mathlib.Nat.{lt_of_lt_of_le}
use native.Mathlib.Omega.{arith}
use lib.Dec.{lit<}
use lib.Pow.{pow_pos, pow_mono, shl_exact}
use Rattle.verdict.specs.Verdict.{Where}
use Rattle.verdict.proofs.Verdict.{where_settled, where_value}
use Rattle.poly.specs.Poly.{sum, coefficient, Degree, Divided, Remainder}
use Rattle.poly.specs.Shifts.{Ready, reduce, low, high}
use Rattle.poly.proofs.Sum.{sum_lt, on_digit}
use Rattle.poly.proofs.Degree.{degree_unique}
use Rattle.poly.proofs.Division.{lower_lt, top_digit, divided_low, quotient_unique, remainder_of, remainder_unique}
use Rattle.poly.proofs.Coefficient.{coefficient_lt, div-digit}

module _ {r g s c : ℕ} (h : Ready r g s c) where
  pub ready_small : s < 2 ^ 32
  ready_small = lt_of_lt_of_le h.register (pow_mono h.most)

  pub low_fits : s * 2 + c < 2 ^ suc r
  low_fits = omega (arith, h.register, h.input)

  -- at the high side: what a word of the machine holds of the register moved up with the input above it
  abbrev moved : ℕ
  moved = sum (s * 2) ((c * 2 ^ r) % 2 ^ 64)

  exact : (c * 2 ^ r) % 2 ^ 64 ≡ c * 2 ^ r
  exact = shl_exact 1 r 64 h.input (omega (arith, h.most))

  moved_fits : moved < 2 ^ suc r
  moved_fits =
      rw exact
      (sum_lt (suc r) (s * 2) (c * 2 ^ r) (omega (arith, h.register))
      (on_digit (λ (x : ℕ). x * 2 ^ r < 2 ^ suc r) (omega (arith, pow_pos r)) (omega (arith, pow_pos r)) c h.input))

  -- its feedback times g fits too, and added to it makes the shift
  pub high_fed : moved / 2 ^ r * g < 2 ^ 64
  high_fed =
      let g-small : g < 2 ^ 33 = lt_of_lt_of_le h.degree.below (pow_mono {j = 33} (omega (arith, h.most))) in
      on_digit (λ (x : ℕ). x * g < 2 ^ 64) (omega arith) (omega arith) (moved / 2 ^ r) (top_digit r moved moved_fits)

  pub high-shifted : sum moved (moved / 2 ^ r * g) ≡ high r g s c
  unfolding reduce
  high-shifted = ap (reduce r g) (ap (sum (s * 2)) exact)

-- a remainder can be shifted with no input
pub zero_ready : {p g r s : ℕ} → Degree g r → r ≤ 32 → Remainder p g s → Ready r g s 0
zero_ready h l v = record { degree = h; most = l; register = lower_lt h v.divided.lower; input = lit< tt }

-- ---- long division of a number, from its highest digit down: q and s are quotient and remainder of the digits from i on

module _ (p i : ℕ) {g r q s : ℕ} (h : Degree g r) (most : r ≤ 32) (pos : 0 < i) (v : Divided (p / 2 ^ i) g q s) where
  -- digit i - 1 comes next
  next : i ≡ suc (i - 1)
  next = omega arith

  pub digit_ready : Ready r g s (coefficient p (i - 1))
  digit_ready = record { degree = h; most = most; register = lower_lt h v.lower; input = coefficient_lt p (i - 1) }

  pub digit_quotient : (s * 2 + coefficient p (i - 1)) / 2 ^ r < 2
  digit_quotient = top_digit r (s * 2 + coefficient p (i - 1)) (low_fits digit_ready)

  pub quotient_fits : i ≤ 64 → q < 2 ^ (64 - i) → q * 2 + (s * 2 + coefficient p (i - 1)) / 2 ^ r < 2 ^ (64 - (i - 1))
  quotient_fits l b = let e : 64 - (i - 1) ≡ suc (64 - i) = omega arith in rw e (omega (arith, digit_quotient))

  pub digit_divided : Divided (p / 2 ^ (i - 1)) g (q * 2 + (s * 2 + coefficient p (i - 1)) / 2 ^ r) (low r g s (coefficient p (i - 1)))
  digit_divided =
      let whole : p / 2 ^ i * 2 + coefficient p (i - 1) ≡ p / 2 ^ (i - 1) =
      ap (λ (k : ℕ). p / 2 ^ k * 2 + coefficient p (i - 1)) next ∙ div-digit p (i - 1) in
      rw whole at (divided_low (coefficient p (i - 1)) (coefficient_lt p (i - 1)) h v)

-- ---- two results of one promise

pub degree_of_settled : {p d e : ℕ} → Where (0 < p) (Degree p d) (d ≡ 0) → Where (0 < p) (Degree p e) (e ≡ 0) → d ≡ e
degree_of_settled a b = where_settled (λ h. degree_unique (a.holds h) (b.holds h)) (λ f. a.fails f ∙ sym (b.fails f))

pub divide_number_settled : {p g q q' s s' : ℕ} → Where ((0 < g) × (g < 2 ^ 33)) (Divided p g q s) ((q ≡ 0) × (s ≡ 0))
    → Where ((0 < g) × (g < 2 ^ 33)) (Divided p g q' s') ((q' ≡ 0) × (s' ≡ 0)) → (q ≡ q') × (s ≡ s')
divide_number_settled a b = (
  where_settled (λ h. quotient_unique (a.holds h) (b.holds h)) (λ f. (a.fails f).0 ∙ sym (b.fails f).0),
  where_settled (λ h. remainder_unique (remainder_of (a.holds h)) (remainder_of (b.holds h))) (λ f. (a.fails f).1 ∙ sym (b.fails f).1),
)

pub low_shift_settled : {r g s c t u : ℕ} → Where (Ready r g s c) (t ≡ low r g s c) (t ≡ 0) → Where (Ready r g s c) (u ≡ low r g s c) (u ≡ 0) → t ≡ u
low_shift_settled = where_value
