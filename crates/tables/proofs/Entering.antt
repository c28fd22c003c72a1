-- What the functions of the pattern table cite: a family's bounds, the entry of a power of x, and one more pattern entered.
-- Assumes nothing.
use mathlib.Core.Path.{◌≡◌, sym, ap, ◌∙◌}
use mathlib.Core.List.{List}
use mathlib.Core.Logic.{inl, inr}
use Prim.Native.Nat.{ℕ, ◌+◌, ◌*◌, ◌/◌, ◌%◌, ◌^◌, ◌≤◌, ◌<◌}
use native.Mathlib.Decide.{ℕ_discrete}
use native.Mathlib.Nat.{one-mul, lt_of_lt_of_le, not-suc-le-zero}
use native.Mathlib.Omega.{arith}
use borrow.Author.Count.{below_more}
use lib.Dec.{lit<}
use lib.ListN.{length, get_or, set}
use lib.Pow.{pow_mono, pow-add, shl_exact}
use lib.Seq.{get_or-set_same, get_or-set_other}
use Rattle.poly.specs.Poly.{Remainder}
use Rattle.poly.proofs.Division.{lower_lt, remainder_unique}
use Rattle.codes.specs.Row.{pattern_at, pattern_count}
use Rattle.families.specs.Families.{lengths, generators}
use Rattle.families.proofs.Families.{family_code, family_degree}
use Rattle.tables.specs.Tables.{piece, Parts, Place, highest, Entered, Family}
use Rattle.tables.proofs.Packing.{packed_remainder}
use Rattle.tables.proofs.Pieces.{piece_is}

-- ---- a family

module _ {f n r : ℕ} (h : Family f n r) where
  pub family_cells : (2 ≤ n) × (n ≤ 63)
  family_cells = let c = family_code f h.row in rw h.length (c.least, c.most)

  pub family_bounds : (1 ≤ r) × (r ≤ 11) × (r < n)
  family_bounds = rw h.length (family_degree f h.row h.degree)

  -- a remainder is below 2048
  pub remainder_small : {p s : ℕ} → Remainder p (get_or generators f 0) s → s < 2048
  remainder_small v = lt_of_lt_of_le (lower_lt h.degree v.divided.lower) (pow_mono {j = 11} family_bounds.1)

  -- 1 << r
  pub one_shifted : 1 * 2 ^ r % 2 ^ 64 ≡ 2 ^ r
  one_shifted = shl_exact 1 r 64 (lit< tt) (omega (arith, family_bounds.1)) ∙ one-mul (2 ^ r)

-- ---- the entry of a power of x

digit_small : (d : ℕ) → d < 4 → (1 ≤ 2 ^ d) × (2 ^ d ≤ 8)
digit_small d l = (pow_mono {i = 0} {j = d} (omega arith), pow_mono {i = d} {j = 3} (omega arith))

pub piece_power : (j : ℕ) → piece (j / 4 * 16 + 2 ^ (j % 4)) ≡ 2 ^ j
piece_power j =
    let b = digit_small (j % 4) (omega arith) in
    let d = 2 ^ (j % 4) in
    let whole : j ≡ j % 4 + j / 4 * 4 = omega arith in
    piece_is (j / 4 * 16 + d) d (j / 4) (omega arith) (omega arith) ∙ sym (pow-add 2 (j % 4) (j / 4 * 4)) ∙ ap (◌^◌ 2) (sym whole)

module _ (j : ℕ) where
  pub digit-shifted : 1 * 2 ^ (j % 4) % 2 ^ 64 ≡ 2 ^ (j % 4)
  digit-shifted = shl_exact 1 (j % 4) 64 (lit< tt) (omega arith) ∙ one-mul (2 ^ (j % 4))

  pub digit_bounds : (1 ≤ 1 * 2 ^ (j % 4) % 2 ^ 64) × (1 * 2 ^ (j % 4) % 2 ^ 64 ≤ 8)
  digit_bounds = rw digit-shifted (digit_small (j % 4) (omega arith))

-- its remainder
pub power_remainder : {f n r : ℕ} (t : List ℕ) (j : ℕ) → Parts t → Family f n r → j < 64
    → Remainder (2 ^ j) (get_or generators f 0) (get_or t (f * 256 + j / 4 * 16 + 2 ^ (j % 4)) 0 % 2 ^ r)
power_remainder {f} {n} {r} t j p h l =
    let b = digit_small (j % 4) (omega arith) in
    let i = f * 256 + j / 4 * 16 + 2 ^ (j % 4) in
    let row : i / 256 ≡ f = omega arith in
    let column : i % 256 ≡ j / 4 * 16 + 2 ^ (j % 4) = omega arith in
    rw (row, column, piece_power) at (packed_remainder (p.at i (omega (arith, h.row)) r (rw row h.degree)))

-- ---- one pattern more

module _ (f : ℕ) (t : List ℕ) (k v : ℕ) where
  -- the pattern k has the remainder v
  pub entered_more : (n : ℕ) → f < 12 → v < 2048 → length t ≡ 24576 → Remainder (pattern_at n k) (get_or generators f 0) v → Entered f n k t
      → Entered f n (k + 1) (set t (f * 2048 + v) k)
  entered_more n row small long here e s l = go (ℕ_discrete s v)
    where
      kept : Place n (get_or generators f 0) k s (get_or t (f * 2048 + s) 0) → (s ≡ v → ⊥) → Place n (get_or generators f 0) (k + 1) s (get_or t (f * 2048 + s) 0)
      kept (inl a) d = inl (omega (arith, a.0), a.1)
      kept (inr a) d = inr (a.0, below_more (λ i. Remainder (pattern_at n i) (get_or generators f 0) s → ⊥) k a.1 (λ there. d (remainder_unique there here)))

      go : Dec (s ≡ v) → Place n (get_or generators f 0) (k + 1) s (get_or (set t (f * 2048 + v) k) (f * 2048 + s) 0)
      go (yes same) = rw (same, get_or-set_same t (f * 2048 + v) k 0 (omega arith)) (inl (omega arith, here))
      go (no other) = rw (get_or-set_other t (f * 2048 + v) (f * 2048 + s) k 0 (λ x. other (omega arith))) (kept (e s l) other)

  -- and no other family is touched
  pub entered_apart : v < 2048 → (h s : ℕ) → s < 2048 → (h ≡ f → ⊥) → get_or (set t (f * 2048 + v) k) (h * 2048 + s) 0 ≡ get_or t (h * 2048 + s) 0
  entered_apart small h s l other = get_or-set_other t (f * 2048 + v) (h * 2048 + s) k 0 (λ x. other (omega arith))

-- ---- family after family

-- where nothing is entered each entry is 255
pub entered_none : (f n : ℕ) (t : List ℕ) → ((s : ℕ) → s < 2048 → get_or t (f * 2048 + s) 0 ≡ 255) → Entered f n 0 t
entered_none f n t h s l = inr (h s l, λ k b. absurd (not-suc-le-zero b))

-- entries that stay
pub entered_kept : (f n m : ℕ) (t u : List ℕ) → ((s : ℕ) → s < 2048 → get_or u (f * 2048 + s) 0 ≡ get_or t (f * 2048 + s) 0) → Entered f n m t → Entered f n m u
entered_kept f n m t u h e s l = rw (h s l) (e s l)

-- the patterns of the families below f are entered, and no others
pub record Filled (f : ℕ) (t : List ℕ) : Type 0 where
  pub long : length t ≡ 24576
  pub below : (h : ℕ) → h < f → Entered h (get_or lengths h 0) (pattern_count (get_or lengths h 0) (highest h)) t
  pub above : (h : ℕ) → f ≤ h → h < 12 → Entered h (get_or lengths h 0) 0 t

-- one family more
pub filled_more : (f : ℕ) (t u : List ℕ) → f < 12 → length u ≡ 24576 → Entered f (get_or lengths f 0) (pattern_count (get_or lengths f 0) (highest f)) u
    → ((h s : ℕ) → h < 12 → s < 2048 → (h ≡ f → ⊥) → get_or u (h * 2048 + s) 0 ≡ get_or t (h * 2048 + s) 0) → Filled f t → Filled (f + 1) u
filled_more f t u l long here others w = record {
  long = long;
  below = below_more (λ h. Entered h (get_or lengths h 0) (pattern_count (get_or lengths h 0) (highest h)) u) f
      (λ h b. entered_kept h (get_or lengths h 0) (pattern_count (get_or lengths h 0) (highest h)) t u (λ s m. others h s (omega arith) m (λ e. omega arith)) (w.below h b)) here;
  above = λ h a b. entered_kept h (get_or lengths h 0) 0 t u (λ s m. others h s b m (λ e. omega arith)) (w.above h (omega arith) b);
}
