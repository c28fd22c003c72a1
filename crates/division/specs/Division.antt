-- Plain division: what the three calls on lent cells hand back. Assumes nothing.
use Rattle.std.specs.Prelude.{◌≡◌, List, [], ◌∷◌, ℕ, ◌*◌, ◌^◌, ◌≤◌, length}
use Rattle.poly.specs.Poly.{Degree, Divided, Remainder}
use Rattle.poly.specs.Cells.{Cells, poly}
use Rattle.verdict.specs.Verdict.{Check, Settles}
use Rattle.cells.specs.Lent.{cells_check}

-- 1 unless the dividend has 0 to 4,096 cells.
abbrev pub dividend_check : List ℕ → Check
dividend_check w = record { number = 1; passes = length w ≤ 4096 }

-- 2 unless the divisor, odd or even, is of degree 1 to 32.
pub record Divisor (g : ℕ) : Type 0 where
  pub r : ℕ
  pub degree : Degree g r
  pub least : 1 ≤ r
  pub most : r ≤ 32

abbrev pub divisor_check : ℕ → Check
divisor_check g = record { number = 2; passes = Divisor g }

-- 6 unless the lent quotient has as many cells as the dividend.
abbrev pub quotient_check : List ℕ → List ℕ → Check
quotient_check w q = record { number = 6; passes = length q ≡ length w }

-- The dividend's quotient, as many cells as the dividend, and its remainder.
pub record Quotient (w : List ℕ) (g : ℕ) (q : List ℕ) (s : ℕ) : Type 0 where
  pub long : length q ≡ length w
  pub cells : Cells q
  pub divided : Divided (poly w) g (poly q) s

-- The remainder of x^r times the dividend.
pub record HighSide (w : List ℕ) (g s : ℕ) : Type 0 where
  pub r : ℕ
  pub degree : Degree g r
  pub remainder : Remainder (poly w * 2 ^ r) g s

-- What `divide` hands back, a number and the remainder, with the lent quotient before and after.
abbrev pub DividesCells : List ℕ → ℕ → List ℕ → List ℕ → ℕ → ℕ → Type 0
DividesCells w g q q' number remainder =
    Settles (dividend_check w ∷ divisor_check g ∷ quotient_check w q ∷ cells_check w ∷ []) number (Quotient w g q' remainder)
    ((q' ≡ q) × (remainder ≡ 0))

-- What `remainder_low` hands back.
abbrev pub LeavesLow : List ℕ → ℕ → ℕ → ℕ → Type 0
LeavesLow w g number remainder =
    Settles (dividend_check w ∷ divisor_check g ∷ cells_check w ∷ []) number (Remainder (poly w) g remainder) (remainder ≡ 0)

-- What `remainder_high` hands back.
abbrev pub LeavesHigh : List ℕ → ℕ → ℕ → ℕ → Type 0
LeavesHigh w g number remainder =
    Settles (dividend_check w ∷ divisor_check g ∷ cells_check w ∷ []) number (HighSide w g remainder) (remainder ≡ 0)
