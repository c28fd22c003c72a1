-- A number in decimal, and a text put into a slice at a place.
-- Assumes nothing.
use Rattle.std.specs.Prelude.{◌≡◌, Bool, true, false, List, [], ◌∷◌, ◌++◌, ℕ, zero, suc, ◌+◌, ◌/◌, ◌%◌, ◌≤◌, ◌<◌, ltb, length, take, drop}

-- The digits of n in ASCII, the highest first, if there are at most k: the one digit of a small n, that is one below ten; of any other n the digits of its
-- tenth part, and then the last.
unfoldable pub digits : ℕ → Bool → ℕ → List ℕ
digits zero small n = []
digits (suc k) true n = (48 + n) ∷ []
digits (suc k) false n = digits k (ltb (n / 10) 10) (n / 10) ++ (48 + n % 10) ∷ []

-- The number n in decimal; n + 1 digits are always enough.
unfoldable pub decimal : ℕ → List ℕ
decimal n = digits (suc n) (ltb n 10) n

-- The slice `out` with the text from place `at` on; what stood elsewhere stays.
abbrev pub written : List ℕ → List ℕ → ℕ → List ℕ
written text out at = take at out ++ (text ++ drop (at + length text) out)

-- A put of the text into the slice `out` at a place: `out'` is what the slice holds afterwards, `end` the place handed back.
pub record Puts (text out : List ℕ) (at : ℕ) (out' : List ℕ) (end : ℕ) : Type 0 where
  -- where the text fits, it stands there, and the place is the one after it
  pub fits : at + length text ≤ length out → (end ≡ at + length text) × (out' ≡ written text out at)
  -- where it does not, and nothing fits from a place beyond the slice, slice and place stay as they were; of a text of no bytes both cases say the same
  pub full : length out < at + length text → (end ≡ at) × (out' ≡ out)
