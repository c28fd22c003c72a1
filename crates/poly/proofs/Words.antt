-- Words through the register, cell by cell; and what the high side gives of a word, the low side gives of the word and r zeros.
-- Assumes nothing.
use mathlib.Core.Path.{◌≡◌}
use mathlib.Core.List.{List, [], ◌∷◌, ◌++◌}
use Prim.Native.Nat.{ℕ, ◌+◌, ◌*◌, ◌/◌, ◌^◌, ◌<◌}
use lib.ListN.{replicate}
use Rattle.poly.specs.Poly.{Degree, Divided, Remainder}
use Rattle.poly.specs.Cells.{poly}
use Rattle.poly.specs.Shifts.{low}
use Rattle.poly.proofs.Cells.{poly_snoc, poly_shift}
use Rattle.poly.proofs.Degree.{degree_pos}
use Rattle.poly.proofs.Division.{lower_zero, divided_lower, remainder_zero, divided_low, remainder_low_lem, remainder_unique}

-- ---- the register, from the empty word on: one cell more of a word that grows, and of a word that is there

module _ {g d : ℕ} (h : Degree g d) where
  -- nothing read yet
  pub divided_empty : Divided (poly []) g (poly []) 0
  unfolding poly
  divided_empty = divided_lower (lower_zero (degree_pos h))

  pub remainder_empty : Remainder (poly []) g 0
  unfolding poly
  remainder_empty = remainder_zero (degree_pos h)

  -- low side; the quotient takes one cell more too
  pub divided_snoc : (w q : List ℕ) {s : ℕ} (c : ℕ) → c < 2 → Divided (poly w) g (poly q) s
      → Divided (poly (w ++ (c ∷ []))) g (poly (q ++ ((s * 2 + c) / 2 ^ d ∷ []))) (low d g s c)
  divided_snoc w q c b v = rw (poly_snoc w c, poly_snoc q) (divided_low c b h v)

  pub remainder_snoc : (w : List ℕ) {s : ℕ} (c : ℕ) → c < 2 → Remainder (poly w) g s → Remainder (poly (w ++ (c ∷ []))) g (low d g s c)
  remainder_snoc w c b v = rw poly_snoc (remainder_low_lem c b h v)

-- what the high side gives of a word, the low side gives of the word and r zeros
pub high_side : {g s t : ℕ} (w : List ℕ) (r : ℕ) → Remainder (poly w * 2 ^ r) g s → Remainder (poly (w ++ replicate r 0)) g t → s ≡ t
high_side w r h k = remainder_unique h (rw poly_shift at k)
