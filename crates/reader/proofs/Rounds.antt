-- The ends are joined and x^n leaves 1, so what the patterns with a cell leave, x^i times, is the same at every cell: u of the cell alone, u + v with
-- the cell after it, and u + 1 with the cell before it, where u and v are the remainders of x^(n-1) and x^(n-2).
-- Assumes nothing.
use mathlib.Core.Path.{◌≡◌, refl, sym, ap, ◌∙◌}
use mathlib.Core.Bool.{Bool, true, false}
use mathlib.Core.Logic.{◌⊎◌, inl, inr, ⊎_elim}
use Prim.Native.Nat.{ℕ, zero, suc, ◌+◌, ◌-◌, ◌*◌, ◌/◌, ◌%◌, ◌^◌, ◌≤◌, ◌<◌}
use native.Mathlib.Nat.{one-mul, pow-suc, zero-div}
use native.Mathlib.Omega.{arith}
use lib.Pow.{pow-add, pow-lt, shl-shr}
use lib.Dec.{eqb}
use Rattle.std.proofs.lemmas.Bool.Decides.{eqb_tells}
use Rattle.poly.specs.Poly.{sum, coefficient, Degree, Remainder, Divides}
use Rattle.poly.proofs.Computed.{divide}
use Rattle.poly.proofs.Sum.{sum_comm, sum_assoc, sum_lt, sum-mod, sum_double, sum_shift}
use Rattle.poly.proofs.Times.{times_one, times_comm}
use Rattle.poly.proofs.Division.{lower, lower_lt, remainder_lower, remainder_sum, remainder_same, remainder_differ, remainder_unique, divide_remainder}
use Rattle.poly.proofs.Multiples.{divides_sum, divides_half, remainder_round}
use Rattle.poly.proofs.Coefficient.{coefficient-sum, power_other, power_place, pair_place}
use Rattle.verdict.specs.Verdict.{Tells}
use Rattle.verdict.proofs.Verdict.{tells_yes, tells_no}
use Rattle.codes.specs.Mending.{Pattern, none, single, pair, ends}
use Rattle.codes.proofs.Checking.{Code, generator_pos}
use Rattle.reader.specs.Reader.{Trigger}
use Rattle.reader.specs.Within.{Halves}

-- ---- x can be cancelled: from the remainder of x p that of p

module _ {g r : ℕ} (odd : g % 2 ≡ 1) (h : Degree g r) (p : ℕ) where
  halved : (q : ℕ) → q % 2 ≡ 0 → q < 2 ^ suc r → Divides g (sum (p * 2) q) → Remainder p g (q / 2)
  halved q even l d =
      let whole : q ≡ q / 2 * 2 = omega arith in
      let twice : sum (p * 2) q ≡ sum p (q / 2) * 2 = ap (sum (p * 2)) whole ∙ sum_double p (q / 2) in
      remainder_same p (rw sum_comm (divides_half (sum p (q / 2)) odd (rw twice at d))) (remainder_lower (lower h (omega arith)))

  module _ {s : ℕ} (t : Remainder (p * 2) g s) where
    small : s < 2 ^ r
    small = lower_lt h t.divided.lower

    own : Divides g (sum (p * 2) s)
    own = remainder_differ t (remainder_lower t.divided.lower)

    pub half_even : s % 2 ≡ 0 → Remainder p g (s / 2)
    half_even e = halved s e (omega (arith, small)) own

    pub half_odd : s % 2 ≡ 1 → Remainder p g (sum s g / 2)
    half_odd e =
        let even : sum s g % 2 ≡ 0 = rw (e, odd) at (sum-mod s g 1) in
        let itself : Divides g g = record { factor = 1; product = sym (times_comm 1 g ∙ times_one g) } in
        halved (sum s g) even (sum_lt (suc r) s g (omega (arith, small)) h.below) (rw sum_assoc at (divides_sum own itself))

-- ---- the places of one cell, and of two

power_same : (j : ℕ) → coefficient (2 ^ j) j ≡ 1
power_same j = ap (λ (x : ℕ). x % 2) (ap (λ (x : ℕ). x / 2 ^ j) (sym (one-mul (2 ^ j))) ∙ shl-shr 1 j)

pair_first : (j k : ℕ) → (j ≡ k → ⊥) → coefficient (sum (2 ^ j) (2 ^ k)) j ≡ 1
pair_first j k f = coefficient-sum (2 ^ j) (2 ^ k) j ∙ rw (power_same j, power_other k j f)

pair_second : (j k : ℕ) → (j ≡ k → ⊥) → coefficient (sum (2 ^ j) (2 ^ k)) k ≡ 1
pair_second j k f = coefficient-sum (2 ^ j) (2 ^ k) k ∙ rw (power_same k, power_other j k (λ e. f (sym e)))

-- ---- the register triggers exactly where it is one of the three

data Fires (rule u v s : ℕ) : Type 0 where
  alone : 1 ≤ rule → s ≡ u → Fires rule u v s
  after : 2 ≤ rule → s ≡ sum u v → Fires rule u v s
  before : 2 ≤ rule → s ≡ sum u 1 → Fires rule u v s

-- powers of x, and two of them, x^i times
power_left : {g s : ℕ} (a b c : ℕ) → a + b ≡ c → Remainder (2 ^ c) g s → Remainder (2 ^ a * 2 ^ b) g s
power_left a b c e h = rw (← (pow-add 2 a b), e) h

pair_left : {g s t : ℕ} (a b i : ℕ) → Remainder (2 ^ a * 2 ^ i) g s → Remainder (2 ^ b * 2 ^ i) g t
    → Remainder (sum (2 ^ a) (2 ^ b) * 2 ^ i) g (sum s t)
pair_left a b i h k = rw sum_shift at (remainder_sum h k)

module _ {n g : ℕ} (code : Code n g) where
  one_left : Remainder 1 g 1
  one_left = remainder_lower (lower code.generator.degree (pow-lt {i = 0} code.generator.least))

  -- x^n goes round to 1
  round_left : Remainder (2 ^ n) g 1
  round_left = rw one-mul at (remainder_round n 1 code.divides one_left)

  module _ {u v : ℕ} (hu : Remainder (2 ^ (n - 1)) g u) (hv : Remainder (2 ^ (n - 2)) g v) where
    -- and x^(2n-2) to x^(n-2)
    twice_left : Remainder (2 ^ (n - 1) * 2 ^ (n - 1)) g v
    twice_left =
        let e : n - 1 + (n - 1) ≡ n - 2 + n = omega (arith, code.least) in
        rw (← (pow-add 2 (n - 1) (n - 1)), e, pow-add 2 (n - 2) n) (remainder_round n (2 ^ (n - 2)) code.divides hv)

    -- cell i, which is x^k
    module _ (i k : ℕ) (place : n ≡ suc k + i) where
      at : n - suc i ≡ k
      at = omega (arith, place)

      cell_left : Remainder (2 ^ k * 2 ^ i) g u
      cell_left = power_left k i (n - 1) (omega (arith, place)) hu

      after_left : (j : ℕ) → k ≡ suc j → Remainder (sum (2 ^ suc j) (2 ^ j) * 2 ^ i) g (sum u v)
      after_left j e =
          pair_left (suc j) j i (power_left (suc j) i (n - 1) (omega (arith, place, e)) hu) (power_left j i (n - 2) (omega (arith, place, e)) hv)

      before_left : Remainder (sum (2 ^ suc k) (2 ^ k) * 2 ^ i) g (sum u 1)
      before_left = rw (sum_comm u 1) (pair_left (suc k) k i (power_left (suc k) i n (sym place) round_left) cell_left)

      first_left : i ≡ 0 → Remainder (sum (2 ^ (n - 1)) 1 * 2 ^ i) g (sum u 1)
      first_left e = pair_left (n - 1) 0 i (power_left (n - 1) i (n - 1) (omega (arith, e)) hu) (power_left 0 i 0 (omega (arith, e)) one_left)

      last_left : k ≡ 0 → Remainder (sum (2 ^ (n - 1)) 1 * 2 ^ i) g (sum u v)
      last_left e =
          let end : i ≡ n - 1 = omega (arith, place, e) in
          rw (sum_comm u v) (pair_left {s = v} (n - 1) 0 i (rw end twice_left) (power_left 0 i (n - 1) (omega (arith, end)) hu))

      module _ {rule s : ℕ} where
        pattern_fires : {e : ℕ} → Pattern n rule e → coefficient e (n - suc i) ≡ 1 → Remainder (e * 2 ^ i) g s → Fires rule u v s
        pattern_fires none h t = let b : ⊥ = omega (arith, ap (λ (x : ℕ). x % 2) (zero-div (2 ^ (n - suc i)))) in absurd b
        pattern_fires (single j l b) h t =
            let e : j ≡ k = sym (power_place j (n - suc i) h) ∙ at in alone b (remainder_unique (rw e at t) cell_left)
        pattern_fires (pair j l b) h t = ⊎_elim first second (pair_place (suc j) j (n - suc i) h)
          where
            first : n - suc i ≡ suc j → Fires rule u v s
            first e = after b (remainder_unique t (after_left j (sym at ∙ e)))

            second : n - suc i ≡ j → Fires rule u v s
            second e = let f : j ≡ k = sym e ∙ at in before b (remainder_unique (rw f at t) before_left)
        pattern_fires (ends b) h t = ⊎_elim first second (pair_place (n - 1) 0 (n - suc i) h)
          where
            first : n - suc i ≡ n - 1 → Fires rule u v s
            first e = before b (remainder_unique t (first_left (omega (arith, place, e))))

            second : n - suc i ≡ 0 → Fires rule u v s
            second e = after b (remainder_unique t (last_left (sym at ∙ e)))

        trigger_fires : Trigger (Pattern n rule) n g i s → Fires rule u v s
        trigger_fires t = pattern_fires t.pattern t.has t.remainder

        fires_trigger : Fires rule u v s → Trigger (Pattern n rule) n g i s
        fires_trigger (alone b e) =
            record { places = 2 ^ k; pattern = single k (omega (arith, place)) b; has = rw at (power_same k); remainder = rw e cell_left }
        fires_trigger (after b e) = go k refl
          where
            go : (x : ℕ) → k ≡ x → Trigger (Pattern n rule) n g i s
            go zero z = record {
              places = sum (2 ^ (n - 1)) 1;
              pattern = ends b;
              has = rw (at, z) (pair_second (n - 1) 0 (omega (arith, code.least)));
              remainder = rw e (last_left z);
            }
            go (suc j) z = record {
              places = sum (2 ^ suc j) (2 ^ j);
              pattern = pair j (omega (arith, place, z)) b;
              has = rw (at, z) (pair_first (suc j) j (omega arith));
              remainder = rw e (after_left j z);
            }
        fires_trigger (before b e) = go i refl
          where
            go : (x : ℕ) → i ≡ x → Trigger (Pattern n rule) n g i s
            go zero z = record {
              places = sum (2 ^ (n - 1)) 1;
              pattern = ends b;
              has = let top : k ≡ n - 1 = omega (arith, place, z) in rw (at, top) (pair_first (n - 1) 0 (omega (arith, code.least)));
              remainder = rw e (first_left z);
            }
            go (suc j) z = record {
              places = sum (2 ^ suc k) (2 ^ k);
              pattern = pair k (omega (arith, place, z)) b;
              has = rw at (pair_second (suc k) k (omega arith));
              remainder = rw e before_left;
            }

-- ---- as it is tested: u and v found by cancelling x

module _ {n g : ℕ} (code : Code n g) where
  pub halved_effect : {u : ℕ} → Halves g 1 u → Remainder (2 ^ (n - 1)) g u
  halved_effect h = let e : n ≡ suc (n - 1) = omega (arith, code.least) in h (2 ^ (n - 1)) (rw (e, pow-suc) at (round_left code))

  pub halved_next : {u v : ℕ} → Remainder (2 ^ (n - 1)) g u → Halves g u v → Remainder (2 ^ (n - 2)) g v
  halved_next {u} t h = let e : n - 1 ≡ suc (n - 2) = omega (arith, code.least) in h (2 ^ (n - 2)) (rw (e, pow-suc) at t)

  -- a number that the power leaves, where none was found
  left : (p : ℕ) → Remainder p g (divide p g).remainder
  left p = divide_remainder p (generator_pos code.generator)

  module _ (rule s : ℕ) where
    -- whether it triggers, at every cell
    abbrev Told : Bool → Type 0
    Told b = (i : ℕ) → i < n → Tells (Trigger (Pattern n rule) n g i s) b

    module _ {u v : ℕ} (hu : Remainder (2 ^ (n - 1)) g u) (hv : Remainder (2 ^ (n - 2)) g v) where
      told_yes : Fires rule u v s → Told true
      told_yes f i l = tells_yes (fires_trigger code hu hv i (n - suc i) (omega arith) f)

      told_no : (Fires rule u v s → ⊥) → Told false
      told_no f i l = tells_no λ t. f (trigger_fires code hu hv i (n - suc i) (omega arith) t)

      pub told_last : 2 ≤ rule → (s ≡ u → ⊥) → (s ≡ sum u 1 → ⊥) → Told (eqb s (sum u v))
      told_last b a c = rest (eqb_tells s (sum u v))
        where
          none_of : (s ≡ sum u v → ⊥) → Fires rule u v s → ⊥
          none_of d (alone r e) = a e
          none_of d (after r e) = d e
          none_of d (before r e) = c e

          rest : ((eqb s (sum u v) ≡ true) × (s ≡ sum u v)) ⊎ ((eqb s (sum u v) ≡ false) × (s ≡ sum u v → ⊥)) → Told (eqb s (sum u v))
          rest (inl (t, e)) = rw t (told_yes (after b e))
          rest (inr (t, d)) = rw t (told_no (none_of d))

    module _ {u : ℕ} (hu : Remainder (2 ^ (n - 1)) g u) where
      pub told_alone : 1 ≤ rule → s ≡ u → Told true
      told_alone b e = told_yes hu (left (2 ^ (n - 2))) (alone b e)

      pub told_before : 2 ≤ rule → s ≡ sum u 1 → Told true
      told_before b e = told_yes hu (left (2 ^ (n - 2))) (before b e)

      pub told_single : rule ≡ 1 → (s ≡ u → ⊥) → Told false
      told_single o a = told_no hu (left (2 ^ (n - 2))) go
        where
          go : Fires rule u (divide (2 ^ (n - 2)) g).remainder s → ⊥
          go (alone r e) = a e
          go (after r e) = omega (arith, o, r)
          go (before r e) = omega (arith, o, r)

    pub told_never : rule ≡ 0 → Told false
    told_never z = told_no (left (2 ^ (n - 1))) (left (2 ^ (n - 2))) go
      where
        go : Fires rule (divide (2 ^ (n - 1)) g).remainder (divide (2 ^ (n - 2)) g).remainder s → ⊥
        go (alone r e) = omega (arith, z, r)
        go (after r e) = omega (arith, z, r)
        go (before r e) = omega (arith, z, r)
