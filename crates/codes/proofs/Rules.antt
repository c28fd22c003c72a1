-- The patterns of rules 0 to 2 are such a set, and every code carries rule 0.
-- Assumes nothing.
use mathlib.Core.Path.{◌≡◌, refl, sym, ap, ◌∙◌}
use mathlib.Core.Logic.{◌⊎◌, inl, inr}
use Prim.Native.Nat.{ℕ, suc, ◌-◌, ◌%◌, ◌^◌, ◌≤◌, ◌<◌}
use native.Mathlib.Nat.{zero-div}
use native.Mathlib.Omega.{arith}
use lib.Pow.{pow_pos, pow-lt}
use Rattle.poly.specs.Poly.{sum, coefficient}
use Rattle.poly.proofs.Sum.{sum_lt, sum_self, sum_back, sum_comm, sum_assoc, sum-zero}
use Rattle.poly.proofs.Coefficient.{power_place, pair_place}
use Rattle.verdict.specs.Verdict.{Passed}
use Rattle.codes.specs.Mending.{Pattern, none, single, pair, ends, Carries, carry_checks}
use Rattle.codes.proofs.Patterns.{Laws}

module _ (n : ℕ) (P : ℕ → Type 0) (one : (i : ℕ) → i < n → P (2 ^ i)) where
  -- two places, less one of them
  pub pair_part : (j k i : ℕ) → j < n → k < n → coefficient (sum (2 ^ j) (2 ^ k)) i ≡ 1 → P (sum (sum (2 ^ j) (2 ^ k)) (2 ^ i))
  pair_part j k i lj lk h = go (pair_place j k i h)
    where
      go : (i ≡ j) ⊎ (i ≡ k) → P (sum (sum (2 ^ j) (2 ^ k)) (2 ^ i))
      go (inl e) = rw (e, sum_comm (sum (2 ^ j) (2 ^ k)) (2 ^ j), sum_back) (one k lk)
      go (inr e) = rw (e, sum_assoc, sum_self, sum-zero) (one j lj)

module _ {n : ℕ} (rule : ℕ) (least : 2 ≤ n) where
  -- a pattern's places are among the n
  pub pattern_inside : {e : ℕ} → Pattern n rule e → e < 2 ^ n
  pattern_inside none = pow_pos n
  pattern_inside (single i h k) = pow-lt h
  pattern_inside (pair i h k) = sum_lt n (2 ^ suc i) (2 ^ i) (pow-lt h) (pow-lt (omega arith))
  pattern_inside (ends k) = sum_lt n (2 ^ (n - 1)) 1 (pow-lt (omega arith)) (pow-lt {i = 0} (omega arith))

  -- less one of its cells it is a pattern
  pub pattern_part : {e : ℕ} (i : ℕ) → Pattern n rule e → coefficient e i ≡ 1 → Pattern n rule (sum e (2 ^ i))
  pattern_part i none h = let n : ⊥ = omega (arith, ap (λ (x : ℕ). x % 2) (zero-div (2 ^ i))) in absurd n
  pattern_part i (single j l k) h = rw (power_place j i h, sum_self) none
  pattern_part i (pair j l k) h = pair_part n (Pattern n rule) (λ a b. single a b (omega arith)) (suc j) j i l (omega arith) h
  pattern_part i (ends k) h = pair_part n (Pattern n rule) (λ a b. single a b (omega arith)) (n - 1) 0 i (omega arith) (omega arith) h

  pub rule_laws : {g : ℕ} → Carries (Pattern n rule) g → Laws (Pattern n rule) n g
  rule_laws c = record { empty = none; part = λ e i p h. pattern_part i p h; inside = λ e p. pattern_inside p; carried = c }

-- rule 0 has the empty pattern only
pattern_none : {n e : ℕ} → Pattern n 0 e → e ≡ 0
pattern_none none = refl
pattern_none (single i h k) = let f : ⊥ = omega arith in absurd f
pattern_none (pair i h k) = let f : ⊥ = omega arith in absurd f
pattern_none (ends k) = let f : ⊥ = omega arith in absurd f

-- so every code carries it
pub rule_0_carried : {n g : ℕ} → Passed (carry_checks n g 0)
rule_0_carried = (omega arith, ((λ e f s p q h k. pattern_none p ∙ sym (pattern_none q)), tt))
