-- Lent cells: the check of number 7, and where the first cell stands that is none. Assumes nothing.
use Rattle.std.specs.Prelude.{List, ℕ, ◌≤◌, ◌<◌, length, get_or}
use Rattle.poly.specs.Cells.{Cells}
use Rattle.verdict.specs.Verdict.{Check}

-- 7 unless each input cell is 0 or 1.
abbrev pub cells_check : List ℕ → Check
cells_check w = record { number = 7; passes = Cells w }

-- The first offending cell is at place i, counted from 0; with none, i is the length.
pub record FirstBad (w : List ℕ) (i : ℕ) : Type 0 where
  pub within : i ≤ length w
  pub before : (j : ℕ) → j < i → get_or w j 0 < 2
  pub bad : i < length w → 2 ≤ get_or w i 0
