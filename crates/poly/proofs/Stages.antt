-- A register by its stages, stage i for x^i: what they hold, and that a shift of the stages is the shift of the number they hold.
-- Assumes nothing.
use mathlib.Core.Path.{◌≡◌, refl, sym, ap, ap₂, ◌∙◌}
use mathlib.Core.List.{List, [], ◌∷◌}
use mathlib.Core.Logic.{◌⊎◌, inl, inr}
use Prim.Native.Nat.{ℕ, zero, suc, ◌+◌, ◌-◌, ◌*◌, ◌/◌, ◌%◌, ◌^◌, ◌≤◌, ◌<◌}
use native.Mathlib.Nat.{add-zero, mul_assoc, mul_comm, zero-div, pow-suc, div-one, mod-lt, mod-eq_of_lt, div-add-mod', le_of_suc-le-suc, not-suc-le-zero}
use native.Mathlib.Numerals.{one-add}
use native.Mathlib.Omega.{arith}
use lib.Arith.{lt-one}
use lib.Dec.{lit<}
use lib.ListN.{length, get_or, replicate, get_or-eq_default}
use lib.Pow.{pow_pos, shr-shr, shl-shr}
use Rattle.poly.specs.Poly.{sum, coefficient, Degree}
use Rattle.poly.specs.Cells.{Cells}
use Rattle.poly.specs.Register.{held, shifted, top, low_shift, high_shift, added}
use Rattle.poly.specs.Shifts.{reduce, low, high}
use Rattle.poly.proofs.Sum.{sum-zero, sum-div, sum_double, sum_lt, sum-block, on_digit}
use Rattle.poly.proofs.Degree.{high_zero}
use Rattle.poly.proofs.Division.{top_digit, reduce_lt}
use Rattle.poly.proofs.Coefficient.{lt_or_le, coefficient_lt, coefficient-sum, coefficient-zero, coefficient-suc, coefficient-digit, coefficient_under, coefficient_past, coefficients_same, div-suc}

-- ---- what the stages hold

-- a register of n stages is below 2 ^ n
pub held_lt : (s : List ℕ) → Cells s → held s < 2 ^ length s
unfolding held
held_lt [] h = lit< tt
held_lt (c ∷ s) h = rw (pow-suc 2 (length s)) (omega (arith, h 0, held_lt s (λ i. h (suc i))))

-- stage i is the coefficient of x^i
pub held_at : (s : List ℕ) (i : ℕ) → Cells s → get_or s i 0 ≡ coefficient (held s) i
unfolding held
held_at [] i h = simp zero-div
held_at (c ∷ s) zero h = sym (coefficient-zero (held s) c (h 0))
held_at (c ∷ s) (suc i) h = held_at s i (λ j. h (suc j)) ∙ sym (coefficient-suc (held s) c i (h 0))

-- stages with the coefficients of p are 0 or 1, and hold p
module _ (s : List ℕ) (p : ℕ) (h : (i : ℕ) → get_or s i 0 ≡ coefficient p i) where
  pub cells_of : Cells s
  cells_of i = rw (h i) (coefficient_lt p i)

  pub held_of : held s ≡ p
  held_of = coefficients_same (held s) p λ i. sym (held_at s i cells_of) ∙ h i

-- zeros hold 0
pub held_zeros : (n : ℕ) → held (replicate n 0) ≡ 0
unfolding held
held_zeros zero = refl
held_zeros (suc n) = rw (held_zeros n)

-- stages from r on are 0 exactly if the number is below 2 ^ r
pub held_small : (s : List ℕ) (r : ℕ) → Cells s → ((i : ℕ) → r ≤ i → get_or s i 0 ≡ 0) → held s < 2 ^ r
held_small s r h z =
    high_zero (held s) r
    (coefficients_same (held s / 2 ^ r) 0 λ i.
    ap (λ (x : ℕ). x % 2) (shr-shr (held s) r i) ∙ sym (held_at s (r + i) h) ∙ z (r + i) (omega arith) ∙ sym (ap (λ (x : ℕ). x % 2) (zero-div (2 ^ i))))

pub held_past : (s : List ℕ) (r i : ℕ) → Cells s → held s < 2 ^ r → r ≤ i → get_or s i 0 ≡ 0
held_past s r i h l b = held_at s i h ∙ coefficient_past (held s) r i l b

-- ---- one shift, stage by stage

pub length-shifted : (g f c : ℕ) (s : List ℕ) → length (shifted g f c s) ≡ length s
unfolding shifted
length-shifted g f c [] = refl
length-shifted g f c (a ∷ s) = ap suc (length-shifted (g / 2) f a s)

-- stage i takes what stood below it, plus f where g has x^i
pub shifted_at : (g f c : ℕ) (s : List ℕ) (i : ℕ) → i < length s → get_or (shifted g f c s) i 0 ≡ sum (get_or (c ∷ s) i 0) (coefficient g i * f)
unfolding shifted
shifted_at g f c [] i l = absurd (not-suc-le-zero l)
shifted_at g f c (a ∷ s) zero l = rw (div-one g)
shifted_at g f c (a ∷ s) (suc i) l =
    shifted_at (g / 2) f a s i (le_of_suc-le-suc l)
    ∙ ap (λ (x : ℕ). sum (get_or (a ∷ s) i 0) (x % 2 * f)) (shr-shr g 1 i ∙ ap (λ (x : ℕ). g / 2 ^ x) (one-add i))

-- what `reduce` makes of t, coefficient by coefficient: the feedback f is t / 2 ^ r
reduce_stage : (r g t i : ℕ) → t < 2 ^ suc r → coefficient (reduce r g t) i ≡ sum (coefficient t i) (coefficient g i * (t / 2 ^ r))
unfolding reduce
reduce_stage r g t i l =
    coefficient-sum t (t / 2 ^ r * g) i
    ∙ ap (sum (coefficient t i)) (coefficient-digit (t / 2 ^ r) g i (top_digit r t l) ∙ mul_comm (t / 2 ^ r) (coefficient g i))

-- so where the stages, moved up by one, stand for t, the shifted ones stand for t reduced
module _ {g r : ℕ} (h : Degree g r) (t f c : ℕ) (s : List ℕ) (room : r ≤ length s) (fits : t < 2 ^ suc r) (feedback : f ≡ t / 2 ^ r)
    (moved : (i : ℕ) → i < length s → get_or (c ∷ s) i 0 ≡ coefficient t i) where
  pub reduced_at : (i : ℕ) → get_or (shifted g f c s) i 0 ≡ coefficient (reduce r g t) i
  reduced_at i = go (lt_or_le i (length s))
    where
      go : (i < length s) ⊎ (length s ≤ i) → get_or (shifted g f c s) i 0 ≡ coefficient (reduce r g t) i
      go (inl l) =
          shifted_at g f c s i l ∙ ap₂ (λ (x y : ℕ). sum x (coefficient g i * y)) (moved i l) feedback ∙ sym (reduce_stage r g t i fits)
      go (inr l) =
          let past : length (shifted g f c s) ≤ i = rw length-shifted l in
          get_or-eq_default (shifted g f c s) 0 past ∙ sym (coefficient_past (reduce r g t) r i (reduce_lt t h fits) (omega arith))

-- ---- at the low side, and at the high side

-- the top stage of a register of r stages is what stands at digit r - 1
top_held : (s : List ℕ) (d : ℕ) → Cells s → held s < 2 ^ suc d → top (suc d) s ≡ held s / 2 ^ d
top_held s d h l = let one : suc d - 1 ≡ d = omega arith in rw one (held_at s d h ∙ mod-eq_of_lt (top_digit d (held s) l))

module _ {g : ℕ} (d : ℕ) (h : Degree g (suc d)) (c : ℕ) (k : c < 2) (s : List ℕ) (hs : Cells s) (l : held s < 2 ^ suc d) where
  -- low side: any number of stages from r on
  module _ (room : suc d ≤ length s) where
    low_at : (i : ℕ) → get_or (low_shift (suc d) g c s) i 0 ≡ coefficient (low (suc d) g (held s) c) i
    unfolding held
    low_at =
        reduced_at h (held s * 2 + c) (top (suc d) s) c s room (omega arith) (top_held s d hs l ∙ sym (div-suc (held s) c d k)) λ i b.
        held_at (c ∷ s) i whole
      where
        whole : Cells (c ∷ s)
        whole zero = k
        whole (suc i) = hs i

    pub held_low : held (low_shift (suc d) g c s) ≡ low (suc d) g (held s) c
    held_low = held_of (low_shift (suc d) g c s) (low (suc d) g (held s) c) low_at

    pub cells_low : Cells (low_shift (suc d) g c s)
    cells_low = cells_of (low_shift (suc d) g c s) (low (suc d) g (held s) c) low_at

  -- high side: r stages, as the input comes in past the top one
  module _ (room : length s ≡ suc d) where
    -- the input is shifted with the rest
    moved : sum (held s * 2) (c * 2 ^ suc d) ≡ sum (held s) (c * 2 ^ d) * 2 + 0
    moved = rw (pow-suc, ← (mul_assoc c (2 ^ d) 2), sum_double, add-zero)

    fits : sum (held s * 2) (c * 2 ^ suc d) < 2 ^ suc (suc d)
    fits =
        sum_lt (suc (suc d)) (held s * 2) (c * 2 ^ suc d) (omega arith)
        (on_digit (λ (x : ℕ). x * 2 ^ suc d < 2 ^ suc (suc d)) (omega (arith, pow_pos d)) (omega (arith, pow_pos d)) c k)

    feedback : sum (top (suc d) s) c ≡ sum (held s * 2) (c * 2 ^ suc d) / 2 ^ suc d
    feedback =
        rw (top_held s d hs l)
        (sym (rw (sum-div (held s * 2) (c * 2 ^ suc d) (suc d), shl-shr c (suc d), ← (add-zero (held s * 2)), div-suc (held s) 0 d (lit< tt))))

    high_at : (i : ℕ) → get_or (high_shift (suc d) g c s) i 0 ≡ coefficient (high (suc d) g (held s) c) i
    high_at = reduced_at h (sum (held s * 2) (c * 2 ^ suc d)) (sum (top (suc d) s) c) 0 s (omega (arith, room)) fits feedback stage
      where
        stage : (i : ℕ) → i < length s → get_or (0 ∷ s) i 0 ≡ coefficient (sum (held s * 2) (c * 2 ^ suc d)) i
        stage zero b = rw moved (sym (coefficient-zero (sum (held s) (c * 2 ^ d)) 0 (lit< tt)))
        stage (suc i) b =
            rw moved
            (held_at s i hs
            ∙ sym (coefficient-suc (sum (held s) (c * 2 ^ d)) 0 i (lit< tt) ∙ coefficient-sum (held s) (c * 2 ^ d) i
            ∙ ap (sum (coefficient (held s) i)) (coefficient_under {i = i} {d = d} c (omega (arith, room))) ∙ sum-zero (coefficient (held s) i)))

    pub held_high : held (high_shift (suc d) g c s) ≡ high (suc d) g (held s) c
    held_high = held_of (high_shift (suc d) g c s) (high (suc d) g (held s) c) high_at

    pub cells-high : Cells (high_shift (suc d) g c s)
    cells-high = cells_of (high_shift (suc d) g c s) (high (suc d) g (held s) c) high_at

-- ---- p added to the register

pub length-added : (p : ℕ) (s : List ℕ) → length (added p s) ≡ length s
unfolding added
length-added p [] = refl
length-added p (c ∷ s) = ap suc (length-added (p / 2) s)

pub cells-added : (p : ℕ) (s : List ℕ) → Cells s → Cells (added p s)
unfolding added
cells-added p [] h i = h i
cells-added p (c ∷ s) h zero = sum_lt 1 c (p % 2) (h 0) (mod-lt p (lit< tt))
cells-added p (c ∷ s) h (suc i) = cells-added (p / 2) s (λ j. h (suc j)) i

pub held-added : (p : ℕ) (s : List ℕ) → Cells s → p < 2 ^ length s → held (added p s) ≡ sum (held s) p
unfolding held added
held-added p [] h l = rw (lt-one l)
held-added p (c ∷ s) h l =
    let half : p / 2 < 2 ^ length s = omega (arith, rw (pow-suc 2 (length s)) at l) in
    rw (held-added (p / 2) s (λ i. h (suc i)) half, ← (sum-block 1 (held s) (p / 2) c (p % 2) (h 0) (mod-lt p (lit< tt))), div-add-mod' p 2)
