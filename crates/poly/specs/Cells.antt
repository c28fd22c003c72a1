-- Words: lists of cells. A cell is 0 or 1, and the first cell is the highest power.
-- Assumes nothing.
use Rattle.std.specs.Prelude.{List, [], ◌∷◌, ℕ, zero, suc, ◌+◌, ◌*◌, ◌^◌, ◌<◌, length, get_or}
use Rattle.poly.specs.Poly.{coefficient}

-- Every cell is 0 or 1. (A place past the end reads as 0.)
abbrev pub Cells : List ℕ → Type 0
Cells w = (i : ℕ) → get_or w i 0 < 2

-- The polynomial that a word stands for.
unfoldable pub poly : List ℕ → ℕ
poly [] = 0
poly (c ∷ w) = c * 2 ^ length w + poly w

-- The n cells of p: the coefficients of x^(n-1) down to x^0.
unfoldable pub cells : ℕ → ℕ → List ℕ
cells zero p = []
cells (suc n) p = coefficient p n ∷ cells n p
