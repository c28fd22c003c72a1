-- The patterns in a row, for the search. Nothing here defines a pattern: the row is proved to hold each pattern of `Mending` once, and no other.
-- Assumes nothing.
use Rattle.std.specs.Prelude.{◌≡◌, cond, List, ℕ, zero, suc, ◌+◌, ◌-◌, ◌*◌, ◌^◌, ◌≤◌, ◌<◌, ltb, length, get_or}
use Rattle.poly.specs.Poly.{sum, Degree, Remainder}

-- The empty one, the n single cells, the n - 1 pairs of cells next to each other, and the two ends.
unfoldable pub pattern_at : ℕ → ℕ → ℕ
pattern_at n zero = 0
pattern_at n (suc i) = cond (ltb i n) (2 ^ i) (cond (ltb (suc (i - n)) n) (sum (2 ^ suc (i - n)) (2 ^ (i - n))) (sum (2 ^ (n - 1)) 1))

-- How many of them a rule has. Two cells are one pair and no more.
unfoldable pub pattern_count : ℕ → ℕ → ℕ
pattern_count n zero = 1
pattern_count n (suc zero) = n + 1
pattern_count n (suc (suc rule)) = cond (ltb 2 n) (2 * n + 1) (2 * n)

-- What the checks 1 and 2 have shown where the search begins.
pub record Given (n g r : ℕ) : Type 0 where
  pub least : 2 ≤ n
  pub most : n ≤ 63
  pub degree : Degree g r
  pub one : 1 ≤ r
  pub few : r ≤ 32

-- The remainders of the first m of them.
pub record Remainders (n g m : ℕ) (t : List ℕ) : Type 0 where
  pub long : length t ≡ 127
  pub at : (i : ℕ) → i < m → Remainder (pattern_at n i) g (get_or t i 0)
