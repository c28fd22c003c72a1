-- What the private functions of plain division promise each other. Assumes nothing.
use Rattle.std.specs.Prelude.{◌≡◌, List, [], ◌∷◌, ℕ, ◌≤◌, length}
use Rattle.poly.specs.Poly.{Degree}
use Rattle.poly.specs.Cells.{Cells}
use Rattle.verdict.specs.Verdict.{Check}
use Rattle.cells.specs.Lent.{cells_check}
use Rattle.division.specs.Division.{dividend_check, divisor_check}

-- The checks of a call to which n cells are lent for the quotient. (A call without a quotient takes as many as the dividend has.)
abbrev pub lent_check : List ℕ → ℕ → Check
lent_check w n = record { number = 6; passes = n ≡ length w }

abbrev pub checks : List ℕ → ℕ → ℕ → List Check
checks w g n = dividend_check w ∷ divisor_check g ∷ lent_check w n ∷ cells_check w ∷ []

-- What was checked: a register of r stages for g, and cells to shift in.
pub record Fit (w : List ℕ) (g r : ℕ) : Type 0 where
  pub degree : Degree g r
  pub least : 1 ≤ r
  pub most : r ≤ 32
  pub cells : Cells w
