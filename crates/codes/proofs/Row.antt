-- The row of patterns: it holds each pattern of the rule once and no other, so a search over its pairs tells whether the code carries the rule.
-- Assumes nothing.
use mathlib.Core.Path.{◌≡◌, refl, sym, ap, ◌∙◌}
use mathlib.Core.List.{List}
use mathlib.Core.Logic.{◌⊎◌, inl, inr}
use Prim.Native.Nat.{ℕ, zero, suc, ◌+◌, ◌-◌, ◌*◌, ◌^◌, ◌≤◌, ◌<◌}
use native.Mathlib.Decide.{ℕ_discrete}
use native.Mathlib.Nat.{one-mul, pow-suc, le_refl}
use native.Mathlib.Omega.{arith}
use borrow.Author.Tests.{lt-ltb, le-ltb}
use lib.ListN.{get_or}
use lib.Pow.{pow_pos, pow_mono, pow-lt}
use Rattle.poly.specs.Poly.{sum, Degree, Remainder}
use Rattle.poly.proofs.Sum.{sum_shifted}
use Rattle.poly.specs.Shifts.{low}
use Rattle.poly.proofs.Degree.{degree_pos, degree_unique}
use Rattle.poly.proofs.Coefficient.{lt_or_le}
use Rattle.poly.proofs.Division.{lower, remainder_lower, remainder_zero, remainder_sum, remainder_double, remainder_unique}
use Rattle.codes.specs.Mending.{Pattern, none, single, pair, ends, Carries}
use Rattle.codes.specs.Row.{pattern_at, pattern_count}

-- ---- what stands where

pub at_none : (n : ℕ) → pattern_at n 0 ≡ 0
unfolding pattern_at
at_none n = refl

pub at_single : (n i : ℕ) → i < n → pattern_at n (suc i) ≡ 2 ^ i
unfolding pattern_at
at_single n i l = rw (lt-ltb i n l)

pub at_pair : (n j : ℕ) → suc j < n → pattern_at n (suc (n + j)) ≡ sum (2 ^ suc j) (2 ^ j)
unfolding pattern_at
at_pair n j l = let back : n + j - n ≡ j = omega arith in rw (le-ltb (n + j) n (omega arith), back, lt-ltb (suc j) n l)

pub at_ends : (n : ℕ) → 0 < n → pattern_at n (n + n) ≡ sum (2 ^ (n - 1)) 1
unfolding pattern_at
at_ends n l =
    let here : n + n ≡ suc (n + (n - 1)) = omega arith in
    let back : n + (n - 1) - n ≡ n - 1 = omega arith in
    rw (here, le-ltb (n + (n - 1)) n (omega arith), back, le-ltb (suc (n - 1)) n (omega arith))

-- the places of the row, by what stands there
data Place (n : ℕ) : ℕ → Type 0 where
  first : Place n 0
  one : (i : ℕ) → i < n → Place n (suc i)
  two : (j : ℕ) → suc j < n → Place n (suc (n + j))
  last : Place n (n + n)

place : (n i : ℕ) → i ≤ n + n → Place n i
place n zero l = first
place n (suc i) l = go (lt_or_le i n) (ℕ_discrete (suc i) (n + n))
  where
    go : (i < n) ⊎ (n ≤ i) → Dec (suc i ≡ n + n) → Place n (suc i)
    go (inl h) d = one i h
    go (inr h) (yes e) = rw e last
    go (inr h) (no f) =
        let back : i ≡ n + (i - n) = omega arith in
        rw back (two (i - n) (omega (arith, f)))

-- ---- how many

-- the row's length by the rule
pub count_none : (n rule : ℕ) → rule ≡ 0 → pattern_count n rule ≡ 1
unfolding pattern_count
count_none n rule e = rw e

pub count_single : (n rule : ℕ) → rule ≡ 1 → pattern_count n rule ≡ n + 1
unfolding pattern_count
count_single n rule e = rw e

module _ (n rule : ℕ) (two : 2 ≤ rule) where
  above : rule ≡ suc (suc (rule - 2))
  above = omega arith

  pub count_pairs : 2 < n → pattern_count n rule ≡ 2 * n + 1
  unfolding pattern_count
  count_pairs l = rw (above, lt-ltb 2 n l)

  pub count_pair : n ≤ 2 → pattern_count n rule ≡ 2 * n
  unfolding pattern_count
  count_pair l = rw (above, le-ltb 2 n l)

  -- the pairs are in it
  count_two : 2 * n ≤ pattern_count n rule
  count_two = go (lt_or_le 2 n)
    where
      go : (2 < n) ⊎ (n ≤ 2) → 2 * n ≤ pattern_count n rule
      go (inl l) = rw (count_pairs l) (omega arith)
      go (inr l) = rw (count_pair l) (omega arith)

-- a rule's row has a first pattern, the single cells from rule 1 on, and ends with the two ends, if n is above 2
count_pos : (n rule : ℕ) → 0 < n → 0 < pattern_count n rule
unfolding pattern_count
count_pos n zero h = omega arith
count_pos n (suc zero) h = omega arith
count_pos n (suc (suc rule)) h = omega (arith, count_two n (suc (suc rule)) (omega arith))

count_one : (n rule : ℕ) → 2 ≤ n → 1 ≤ rule → n < pattern_count n rule
unfolding pattern_count
count_one n zero h b = let c : ⊥ = omega arith in absurd c
count_one n (suc zero) h b = omega arith
count_one n (suc (suc rule)) h b = omega (arith, count_two n (suc (suc rule)) (omega arith))

module _ (n rule : ℕ) where
  pub count_le : pattern_count n rule ≤ 2 * n + 1
  unfolding pattern_count
  count_le = go rule
    where
      go : (rule : ℕ) → pattern_count n rule ≤ 2 * n + 1
      go zero = omega arith
      go (suc zero) = omega arith
      go (suc (suc r)) = most (lt_or_le 2 n)
        where
          most : (2 < n) ⊎ (n ≤ 2) → pattern_count n (suc (suc r)) ≤ 2 * n + 1
          most (inl l) = rw (count_pairs n (suc (suc r)) (omega arith) l) (omega arith)
          most (inr l) = rw (count_pair n (suc (suc r)) (omega arith) l) (omega arith)

-- what stands past the first place is of rule 1 on, and past the single cells of rule 2
rule_one : (n rule i : ℕ) → 0 < i → i < pattern_count n rule → 1 ≤ rule
unfolding pattern_count
rule_one n zero i p l = let b : ⊥ = omega arith in absurd b
rule_one n (suc rule) i p l = omega arith

rule_two : (n rule i : ℕ) → n < i → i < pattern_count n rule → 2 ≤ rule
unfolding pattern_count
rule_two n zero i p l = let b : ⊥ = omega arith in absurd b
rule_two n (suc zero) i p l = let b : ⊥ = omega arith in absurd b
rule_two n (suc (suc rule)) i p l = omega arith

-- ---- the row holds the patterns

module _ (n rule : ℕ) (least : 2 ≤ n) where
  -- only patterns
  pub row_pattern : (i : ℕ) → i < pattern_count n rule → Pattern n rule (pattern_at n i)
  row_pattern i l = go i l (place n i (omega (arith, count_le n rule)))
    where
      go : (i : ℕ) → i < pattern_count n rule → Place n i → Pattern n rule (pattern_at n i)
      go i l first = rw at_none none
      go i l (one j b) = rw (at_single n j b) (single j b (rule_one n rule (suc j) (omega arith) l))
      go i l (two j b) = rw (at_pair n j b) (pair j b (rule_two n rule (suc (n + j)) (omega arith) l))
      go i l last = rw (at_ends n (omega arith)) (ends (rule_two n rule (n + n) (omega arith) l))

  -- each of them
  pub pattern_row : {e : ℕ} → Pattern n rule e → (i : ℕ) × (i < pattern_count n rule) × (pattern_at n i ≡ e)
  pattern_row none = (0, count_pos n rule (omega arith), at_none n)
  pattern_row (single i l b) = (suc i, omega (arith, count_one n rule least b), at_single n i l)
  pattern_row (pair i l b) = (suc (n + i), omega (arith, count_two n rule b), at_pair n i l)
  pattern_row (ends b) = go (lt_or_le 2 n)
    where
      go : (2 < n) ⊎ (n ≤ 2) → (i : ℕ) × (i < pattern_count n rule) × (pattern_at n i ≡ sum (2 ^ (n - 1)) 1)
      go (inl l) = (n + n, omega (arith, count_pairs n rule b l), at_ends n (omega arith))
      go (inr l) =
          let two : n ≡ 2 = omega arith in
          (suc (n + 0), omega (arith, count_two n rule b), at_pair n 0 (omega arith) ∙ ap (λ (m : ℕ). sum (2 ^ (m - 1)) 1) (sym two))

-- ---- each of them once

-- a number by its highest place d and what stands below it
record Top (e d low : ℕ) : Type 0 where
  whole : e ≡ 2 ^ d + low
  below : low < 2 ^ d

top_degree : {e d low : ℕ} → Top e d low → Degree e d
top_degree {e} {d} {low} t = rw t.whole (record { least = omega arith; below = omega (arith, t.below) })

top_same : {e d low c bottom : ℕ} → Top e d low → Top e c bottom → (d ≡ c) × (low ≡ bottom)
top_same {e} {d} {low} {c} {bottom} s t =
    let same : d ≡ c = degree_unique (top_degree s) (top_degree t) in
    let both : 2 ^ c + low ≡ 2 ^ c + bottom = ap (λ (x : ℕ). 2 ^ x + low) (sym same) ∙ sym s.whole ∙ t.whole in
    (same, omega arith)

-- two places, the higher one first
top_two : (d low : ℕ) → low < 2 ^ d → Top (sum (2 ^ d) low) d low
top_two d low l = record { whole = rw (one-mul (2 ^ d)) at (sum_shifted 1 d low l); below = l }

top_pos : {e d low : ℕ} → Top e d low → 0 ≡ e → ⊥
top_pos {e} {d} {low} t z = omega (arith, t.whole, pow_pos d)

module _ (n : ℕ) (least : 2 ≤ n) where
  top_single : (i : ℕ) → i < n → Top (pattern_at n (suc i)) i 0
  top_single i l = rw (at_single n i l) (record { whole = omega arith; below = pow_pos i })

  top_pair : (j : ℕ) → suc j < n → Top (pattern_at n (suc (n + j))) (suc j) (2 ^ j)
  top_pair j l = rw (at_pair n j l) (top_two (suc j) (2 ^ j) (pow-lt (le_refl (suc j))))

  top_ends : Top (pattern_at n (n + n)) (n - 1) 1
  top_ends = rw (at_ends n (omega arith)) (top_two (n - 1) 1 (pow-lt {i = 0} (omega arith)))

  -- no pattern stands at two places (of two cells, the ends are no place of the row)
  places_apart : {i j : ℕ} → i < j → (j ≡ n + n → 2 < n) → Place n i → Place n j → pattern_at n i ≡ pattern_at n j → ⊥
  places_apart l b first first e = omega arith
  places_apart l b first (one j m) e = top_pos (top_single j m) (sym (at_none n) ∙ e)
  places_apart l b first (two j m) e = top_pos (top_pair j m) (sym (at_none n) ∙ e)
  places_apart l b first last e = top_pos top_ends (sym (at_none n) ∙ e)
  places_apart l b (one i k) first e = omega arith
  places_apart l b (one i k) (one j m) e = omega (arith, (top_same (top_single i k) (rw (sym e) at (top_single j m))).0)
  places_apart l b (one i k) (two j m) e = omega (arith, (top_same (top_single i k) (rw (sym e) at (top_pair j m))).1, pow_pos j)
  places_apart l b (one i k) last e = omega (arith, (top_same (top_single i k) (rw (sym e) at top_ends)).1)
  places_apart l b (two i k) first e = omega arith
  places_apart l b (two i k) (one j m) e = omega arith
  places_apart l b (two i k) (two j m) e = omega (arith, (top_same (top_pair i k) (rw (sym e) at (top_pair j m))).0)
  places_apart l b (two i k) last e =
      let s = top_same (top_pair i k) (rw (sym e) at top_ends) in
      let more : 2 < n = b refl in
      omega (arith, s.0, s.1, pow_mono {i = 1} {j = i} (omega (arith, s.0)))
  places_apart l b last first e = omega arith
  places_apart l b last (one j m) e = omega arith
  places_apart l b last (two j m) e = omega arith
  places_apart l b last last e = omega arith

  pub row_apart : (rule i j : ℕ) → i < j → j < pattern_count n rule → pattern_at n i ≡ pattern_at n j → ⊥
  row_apart rule i j l m =
      places_apart l ends_in (place n i (omega (arith, count_le n rule))) (place n j (omega (arith, count_le n rule)))
    where
      ends_in : j ≡ n + n → 2 < n
      ends_in e = go (lt_or_le 2 n)
        where
          go : (2 < n) ⊎ (n ≤ 2) → 2 < n
          go (inl h) = h
          go (inr h) = let b : ⊥ = omega (arith, count_pair n rule (rule_two n rule j (omega arith) m) h) in absurd b

-- ---- the search

module _ {n g : ℕ} (rule : ℕ) (least : 2 ≤ n) (t : List ℕ) (m : ℕ) (count : m ≡ pattern_count n rule)
    (filled : (i : ℕ) → i < m → Remainder (pattern_at n i) g (get_or t i 0)) where
  -- no two places have the same remainder: the code carries the rule
  pub row_carries : ((y : ℕ) → y < m → (x : ℕ) → x < y → get_or t x 0 ≡ get_or t y 0 → ⊥) → Carries (Pattern n rule) g
  row_carries apart e f s p q a b =
      let x = pattern_row n rule least p in
      let y = pattern_row n rule least q in
      let hx : x.0 < m = rw count x.1 in
      let hy : y.0 < m = rw count y.1 in
      let at_x : Remainder (pattern_at n x.0) g s = rw x.2 a in
      let at_y : Remainder (pattern_at n y.0) g s = rw y.2 b in
      let same = remainder_unique (filled x.0 hx) at_x ∙ sym (remainder_unique (filled y.0 hy) at_y) in
      sym x.2 ∙ ap (pattern_at n) (go x.0 y.0 hx hy same (ℕ_discrete x.0 y.0) (lt_or_le x.0 y.0)) ∙ y.2
    where
      go : (x y : ℕ) → x < m → y < m → get_or t x 0 ≡ get_or t y 0 → Dec (x ≡ y) → (x < y) ⊎ (y ≤ x) → x ≡ y
      go x y hx hy same (yes e) o = e
      go x y hx hy same (no f) (inl l) = absurd (apart y hy x l same)
      go x y hx hy same (no f) (inr l) = absurd (apart x hx y (omega (arith, f)) (sym same))

  -- two places that have: it doesn't
  pub row_collides : (i j : ℕ) → i < j → j < m → get_or t i 0 ≡ get_or t j 0 → Carries (Pattern n rule) g → ⊥
  row_collides i j l h same carried =
      row_apart n least rule i j l (rw count at h)
      (carried (pattern_at n i) (pattern_at n j) (get_or t i 0) (row_pattern n rule least i (rw count at (let k : i < m = omega arith in k)))
      (row_pattern n rule least j (rw count at h)) (filled i (omega arith)) (rw same (filled j h)))

-- ---- the remainders in the row, each from those before it

module _ (n : ℕ) {g r : ℕ} (h : Degree g r) where
  pub first_remainder : Remainder (pattern_at n 0) g 0
  first_remainder = rw at_none (remainder_zero (degree_pos h))

  pub one_remainder : 0 < n → 1 ≤ r → Remainder (pattern_at n 1) g 1
  one_remainder l b = rw (at_single n 0 l) (remainder_lower (lower h (pow-lt b)))

  pub single_remainder : (k : ℕ) {s t : ℕ} → 2 ≤ k → k ≤ n → Remainder (pattern_at n (k - 1)) g s → t ≡ low r g s 0 → Remainder (pattern_at n k) g t
  single_remainder k {s} {t} b l v e =
      let i = k - 2 in
      let here : k ≡ suc (suc i) = omega arith in
      let before : k - 1 ≡ suc i = omega arith in
      let two : Remainder (2 ^ i) g s = rw (before, at_single n i (omega arith)) at v in
      rw (here, at_single n (suc i) (omega arith), pow-suc, e) (remainder_double h two)

  pub pair_remainder : (k : ℕ) {s t : ℕ} → n < k → k < 2 * n → Remainder (pattern_at n (k - n + 1)) g s → Remainder (pattern_at n (k - n)) g t
      → Remainder (pattern_at n k) g (sum s t)
  pair_remainder k {s} {t} b l v w =
      let j = k - n - 1 in
      let here : k ≡ suc (n + j) = omega arith in
      let above : k - n + 1 ≡ suc (suc j) = omega arith in
      let below : k - n ≡ suc j = omega arith in
      let vs : Remainder (2 ^ suc j) g s = rw (above, at_single n (suc j) (omega arith)) at v in
      let ws : Remainder (2 ^ j) g t = rw (below, at_single n j (omega arith)) at w in
      rw (here, at_pair n j (omega arith)) (remainder_sum vs ws)

  pub ends_remainder : {s t : ℕ} → 0 < n → Remainder (pattern_at n n) g s → Remainder (pattern_at n 1) g t → Remainder (pattern_at n (2 * n)) g (sum s t)
  ends_remainder {s} {t} l v w =
      let here : 2 * n ≡ n + n = omega arith in
      let top : n ≡ suc (n - 1) = omega arith in
      let vs : Remainder (2 ^ (n - 1)) g s = rw (ap (pattern_at n) top ∙ at_single n (n - 1) (omega arith)) at v in
      let ws : Remainder 1 g t = rw (at_single n 0 l) at w in
      rw (here, at_ends n l) (remainder_sum vs ws)
