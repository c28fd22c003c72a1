-- The laws of words: a word of n cells and a number below 2 ^ n are the same thing.
-- Assumes nothing.
use mathlib.Core.Path.{◌≡◌, refl, sym, ap, ap₂, ◌∙◌}
use mathlib.Core.List.{List, [], ◌∷◌, ◌++◌}
use Prim.Native.Nat.{ℕ, zero, suc, ◌+◌, ◌-◌, ◌*◌, ◌/◌, ◌%◌, ◌^◌, ◌<◌, suc-le-suc}
use native.Mathlib.Nat.{zero-add, zero-mul, pow-suc, mod-lt, zero-lt-suc, add-zero, mod-one}
use native.Mathlib.Numerals.{one-add}
use native.Mathlib.Omega.{arith}
use lib.Arith.{digits_lt, digits_mod}
use lib.Dec.{lit<}
use lib.ListN.{length, get_or, take, drop, replicate, length-replicate, length-append, length-drop, take-append-drop}
use lib.Pow.{pow-add, high, mod-pow-add}
use lib.Seq.{take-suc, get_or-drop, ext_get_or}
use Rattle.poly.specs.Poly.{coefficient}
use Rattle.poly.specs.Cells.{Cells, poly, cells}

-- ---- cells

-- a word's cells, looked at only where there are some
pub cells_in : (w : List ℕ) → ((i : ℕ) → i < length w → get_or w i 0 < 2) → Cells w
cells_in [] h i = lit< tt
cells_in (c ∷ w) h zero = h 0 (zero-lt-suc (length w))
cells_in (c ∷ w) h (suc i) = cells_in w (λ j l. h (suc j) (suc-le-suc l)) i

-- some first cells are cells
pub cells-take : (k : ℕ) (w : List ℕ) → Cells w → Cells (take k w)
cells-take zero w h i = lit< tt
cells-take (suc k) [] h i = lit< tt
cells-take (suc k) (c ∷ w) h zero = h 0
cells-take (suc k) (c ∷ w) h (suc i) = cells-take k w (λ j. h (suc j)) i

-- so are the cells after them
pub cells-drop : (k : ℕ) (w : List ℕ) → Cells w → Cells (drop k w)
cells-drop k w h i = rw get_or-drop (h (k + i))

-- and two words in a row
pub cells-append : (v w : List ℕ) → Cells v → Cells w → Cells (v ++ w)
cells-append [] w h k i = k i
cells-append (c ∷ v) w h k zero = h 0
cells-append (c ∷ v) w h k (suc i) = cells-append v w (λ j. h (suc j)) k i

-- ---- the number of a word

-- two words in a row: the first is shifted past the second
pub poly-append : (v w : List ℕ) → poly (v ++ w) ≡ poly v * 2 ^ length w + poly w
unfolding poly
poly-append [] w = simp (zero-mul, zero-add)
poly-append (c ∷ v) w = rw (length-append v w, pow-add, poly-append v w) (omega arith)

-- one cell more
pub poly_snoc : (w : List ℕ) (c : ℕ) → poly (w ++ (c ∷ [])) ≡ poly w * 2 + c
unfolding poly
poly_snoc w c = poly-append w (c ∷ []) ∙ omega arith

-- the cells of a word up to and with cell i
pub poly-take-suc : (w : List ℕ) (i : ℕ) → i < length w → poly (take (suc i) w) ≡ poly (take i w) * 2 + get_or w i 0
poly-take-suc w i h = rw (take-suc w i 0 h, poly_snoc)

-- a word of n cells is below 2 ^ n
pub poly_lt : (w : List ℕ) → Cells w → poly w < 2 ^ length w
unfolding poly
poly_lt [] h = lit< tt
poly_lt (c ∷ w) h = rw (pow-suc 2 (length w)) (omega (arith, digits_lt {m = 2} (h 0) (poly_lt w (λ i. h (suc i)))))

-- the cells before and after a place are the high and the low part
pub poly-high : (v w : List ℕ) → Cells w → poly (v ++ w) / 2 ^ length w ≡ poly v
poly-high v w h = rw poly-append (high (poly v) (length w) (poly_lt w h))

-- the first k cells, and those after them
pub poly-take : (k : ℕ) (w : List ℕ) → Cells w → poly (take k w) ≡ poly w / 2 ^ (length w - k)
poly-take k w h = sym (rw (length-drop, take-append-drop) at (poly-high (take k w) (drop k w) (cells-drop k w h)))

-- cell i is the coefficient of x^(n-1-i)
pub poly_cell : (w : List ℕ) (i : ℕ) → Cells w → i < length w → get_or w i 0 ≡ coefficient (poly w) (length w - suc i)
poly_cell w i h l = sym (rw (← (poly-take (suc i) w h), poly-take-suc w i l) (digits_mod (poly (take i w)) (h i)))

-- zeros at the end: r shifts
pub poly_zeros : (r : ℕ) → poly (replicate r 0) ≡ 0
unfolding poly
poly_zeros zero = refl
poly_zeros (suc r) = rw (poly_zeros r) (omega arith)

pub poly_shift : (w : List ℕ) (r : ℕ) → poly (w ++ replicate r 0) ≡ poly w * 2 ^ r
poly_shift w r = rw (poly-append, poly_zeros, length-replicate) (add-zero (poly w * 2 ^ r))

-- ---- and back

-- as many cells as asked for
pub length-cells : (n p : ℕ) → length (cells n p) ≡ n
unfolding cells
length-cells zero p = refl
length-cells (suc n) p = ap suc (length-cells n p)

-- each of them 0 or 1
pub cells-cells : (n p : ℕ) → Cells (cells n p)
unfolding cells
cells-cells zero p i = lit< tt
cells-cells (suc n) p zero = mod-lt (p / 2 ^ n) (lit< tt)
cells-cells (suc n) p (suc i) = cells-cells n p i

-- the n low digits of p
pub poly-cells : (n p : ℕ) → poly (cells n p) ≡ p % 2 ^ n
unfolding poly cells
poly-cells zero p = sym (mod-one p)
poly-cells (suc n) p = rw (length-cells n p, poly-cells n p, ← (one-add n)) (sym (mod-pow-add p 1 n))

-- words of one length that stand for one polynomial are one word
pub poly_injective : (v w : List ℕ) → length v ≡ length w → Cells v → Cells w → poly v ≡ poly w → v ≡ w
poly_injective v w l h k e =
    ext_get_or 0 v w l λ i b.
    poly_cell v i h b ∙ ap₂ (λ (p n : ℕ). coefficient p (n - suc i)) e l ∙ sym (poly_cell w i k (rw l at b))

-- ---- one cell changed
