-- One cell more of a dividend: what the register held before and holds after, and the cell that the quotient takes.
-- Assumes nothing.
use mathlib.Core.Path.{◌≡◌, refl, sym, ap, ◌∙◌}
use mathlib.Core.List.{List, [], ◌∷◌, ◌++◌}
use Prim.Native.Nat.{ℕ, zero, suc, ◌+◌, ◌-◌, ◌*◌, ◌/◌, ◌^◌, ◌≤◌, ◌<◌}
use native.Mathlib.Nat.{zero-mul, mod-eq_of_lt}
use native.Mathlib.Omega.{arith}
use lib.Dec.{lit<}
use lib.ListN.{length, get_or, take, set, length-append}
use lib.Seq.{take-suc, take-suc-set}
use Rattle.poly.specs.Poly.{coefficient, Degree, Lower, Remainder}
use Rattle.poly.specs.Cells.{Cells, poly}
use Rattle.poly.specs.Shifts.{Ready, low, high}
use Rattle.poly.proofs.Cells.{cells-append, poly_snoc}
use Rattle.poly.proofs.Coefficient.{coefficient_lt, div-suc}
use Rattle.poly.proofs.Degree.{degree_unique}
use Rattle.poly.proofs.Division.{lower_lt, top_digit, remainder_high_lem}
use Rattle.poly.proofs.Words.{divided_empty, divided_snoc, remainder_empty}
use Rattle.division.specs.Division.{Quotient, HighSide}
use Rattle.division.specs.Within.{Fit}

-- one cell more is a cell
cells_snoc : (w : List ℕ) (c : ℕ) → Cells w → c < 2 → Cells (w ++ (c ∷ []))
cells_snoc w c h b = cells-append w (c ∷ []) h one
  where
    one : Cells (c ∷ [])
    one zero = b
    one (suc i) = lit< tt

-- a quotient comes with the remainder
pub quotient_remainder : {w q : List ℕ} {g s : ℕ} → Quotient w g q s → Remainder (poly w) g s
quotient_remainder {q = q} v = record { quotient = poly q; divided = v.divided }

module _ {g r : ℕ} (h : Degree g r) where
  -- what the remainder of x^r times the dividend is, with the degree at hand
  pub high_remainder : {w : List ℕ} {s : ℕ} → HighSide w g s → Remainder (poly w * 2 ^ r) g s
  high_remainder v = rw (degree_unique v.degree h) at v.remainder

  -- ---- the register from zero

  pub quotient_empty : Quotient [] g [] 0
  quotient_empty = record { long = refl; cells = λ i. lit< tt; divided = divided_empty h }

  pub empty_times : (k : ℕ) → Remainder (poly [] * k) g 0
  unfolding poly
  empty_times k = rw (zero-mul k) (remainder_empty h)

  pub high_empty : HighSide [] g 0
  high_empty = record { r = r; degree = h; remainder = empty_times (2 ^ r) }

  -- ---- and after one cell more

  pub high_snoc : (w : List ℕ) {s : ℕ} (c : ℕ) → c < 2 → HighSide w g s → HighSide (w ++ (c ∷ [])) g (high r g s c)
  high_snoc w c k v = record { r = r; degree = h; remainder = rw poly_snoc (remainder_high_lem (poly w) c k h (high_remainder v)) }

  module _ (least : 1 ≤ r) where
    -- the output is the top stage, whatever comes in
    pub output : {s c : ℕ} → s < 2 ^ r → c < 2 → (s * 2 + c) / 2 ^ r ≡ coefficient s (r - 1)
    output {s} {c} l k =
        let top : r ≡ suc (r - 1) = omega arith in
        ap (λ (x : ℕ). (s * 2 + c) / 2 ^ x) top ∙ div-suc s c (r - 1) k ∙ sym (mod-eq_of_lt (top_digit (r - 1) s (rw (← top) l)))

    pub quotient_snoc : {w q : List ℕ} {s : ℕ} (c : ℕ) → c < 2 → Quotient w g q s
        → Quotient (w ++ (c ∷ [])) g (q ++ (coefficient s (r - 1) ∷ [])) (low r g s c)
    quotient_snoc {w} {q} {s} c k v = record {
      long = rw (length-append, length-append, v.long);
      cells = cells_snoc q (coefficient s (r - 1)) v.cells (coefficient_lt s (r - 1));
      divided = rw (output (lower_lt h v.divided.lower) k) at (divided_snoc h w q c k v.divided);
    }

-- ---- the same for the first i cells of a dividend

module _ {w : List ℕ} {g r : ℕ} (f : Fit w g r) (i : ℕ) where
  -- the register can be shifted
  pub fit_ready : {s : ℕ} → Lower s g → Ready r g s (get_or w i 0)
  fit_ready l = record { degree = f.degree; most = f.most; register = lower_lt f.degree l; input = f.cells i }

  module _ (b : i < length w) where
    pub quotient_next : (q : List ℕ) {s : ℕ} → length q ≡ length w → Quotient (take i w) g (take i q) s
        → Quotient (take (suc i) w) g (take (suc i) (set q i (coefficient s (r - 1)))) (low r g s (get_or w i 0))
    quotient_next q {s} e v =
        rw (take-suc w i 0 b, take-suc-set q i (coefficient s (r - 1)) (omega arith))
        (quotient_snoc f.degree f.least (get_or w i 0) (f.cells i) v)
