-- The lowest digits of a number, for a private function. Assumes nothing.
use Rattle.std.specs.Prelude.{List, [], ◌∷◌, ◌++◌, ℕ, zero, suc, ◌+◌, ◌/◌, ◌%◌}

-- The k lowest digits of v in ASCII, the highest first.
unfoldable pub lowest : ℕ → ℕ → List ℕ
lowest zero v = []
lowest (suc k) v = lowest k (v / 10) ++ (48 + v % 10) ∷ []
