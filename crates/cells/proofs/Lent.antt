-- Lent cells: what the place of the first bad one tells, and that each call's promise has one result.
-- Assumes nothing.
use mathlib.Core.Path.{◌≡◌, refl, sym, ap, ◌∙◌}
use mathlib.Core.List.{List}
use mathlib.Core.Logic.{◌⊎◌, inl, inr}
use Prim.Native.Nat.{ℕ, suc, ◌+◌, ◌-◌, ◌*◌, ◌/◌, ◌%◌, ◌^◌, ◌≤◌, ◌<◌}
use native.Mathlib.Nat.{lt_of_lt_of_le}
use native.Mathlib.Numerals.{add-one}
use native.Mathlib.Omega.{arith}
use lib.ListN.{length, get_or, take, drop, set}
use lib.Pow.{pow_mono, shr-shr}
use lib.Seq.{length-take-le, set_split, drop_at}
use Rattle.poly.specs.Cells.{Cells, poly, cells}
use Rattle.poly.proofs.Cells.{cells_in, cells-take, poly-take-suc, poly_lt}
use Rattle.poly.proofs.Coefficient.{lt_or_le}
use Rattle.std.specs.Prelude.{Result, Ok, Err, MatchResult}
use Rattle.verdict.specs.declared.Refusal.{Refusal}
use Rattle.verdict.specs.declared.Refusal.TheVariants.{Cell}
use Rattle.verdict.specs.Verdict.{Where}
use Rattle.verdict.proofs.Verdict.{where_settled}
use Rattle.cells.specs.Lent.{FirstBad}

-- ---- the first bad cell

module _ {w : List ℕ} {i : ℕ} (h : FirstBad w i) where
  -- at the end there is none
  pub first_bad_cells : length w ≤ i → Cells w
  first_bad_cells l = cells_in w λ j b. h.before j (omega arith)

  -- and before the end there is one
  pub first_bad_none : i < length w → Cells w → ⊥
  first_bad_none l k = omega (arith, h.bad l, k i)

-- none stands before the first
first_bad_le : {w : List ℕ} {i j : ℕ} → FirstBad w i → FirstBad w j → i ≤ j
first_bad_le {i = i} {j = j} h k = go (lt_or_le j i)
  where
    go : (j < i) ⊎ (i ≤ j) → i ≤ j
    go (inl l) = omega (arith, h.within, h.before j l, k.bad (omega (arith, h.within)))
    go (inr l) = l

-- ---- a number read from the first cell on

-- up to 63 cells make no more than 63 digits
pub read_lt : (w : List ℕ) (i : ℕ) → Cells w → length w ≤ 63 → i < length w → poly (take i w) * 2 + get_or w i 0 < 2 ^ 63
read_lt w i h most l =
    let long : length (take (suc i) w) ≤ 63 = rw (length-take-le (suc i) w l) (omega arith) in
    rw (← (poly-take-suc w i l)) (lt_of_lt_of_le (poly_lt (take (suc i) w) (cells-take (suc i) w h)) (pow_mono long))

-- so with one of them more the number has no more, where none of them is bad
pub read_next : {w : List ℕ} {i k p : ℕ} → FirstBad w k → length w ≤ k → length w ≤ 63 → i < length w → p ≡ poly (take i w)
    → p * 2 + get_or w i 0 < 2 ^ 63
read_next {w} {i} h good most l e = rw e (read_lt w i (first_bad_cells h good) most l)

-- ---- a number written from the end on

module _ (w : List ℕ) (n p i rest : ℕ) (some : 0 < i) (room : i ≤ n) (long : length w ≡ n) (done : drop i w ≡ cells (n - i) p)
    (left : rest ≡ p / 2 ^ (n - i)) where
  -- one place more
  more : n - (i - 1) ≡ suc (n - i)
  more = omega arith

  pub written_more : drop (i - 1) (set w (i - 1) (rest % 2)) ≡ cells (n - (i - 1)) p
  unfolding cells
  written_more =
      let l : i - 1 < length w = omega arith in
      let e : suc (i - 1) ≡ i = omega arith in
      let front : length (take (i - 1) w) ≡ i - 1 = length-take-le (i - 1) w (omega arith) in
      rw (set_split w (i - 1) (rest % 2) l, drop_at (take (i - 1) w) _ (i - 1) front, e, more, done, left)

  pub left_more : rest / 2 ≡ p / 2 ^ (n - (i - 1))
  left_more = rw (more, left, ← add-one (n - i)) (shr-shr p (n - i) 1)

-- ---- two results of one promise

pub first_bad_settled : {w : List ℕ} {i j : ℕ} → FirstBad w i → FirstBad w j → i ≡ j
first_bad_settled h k = omega (arith, first_bad_le h k, first_bad_le k h)

pub check_settled : (w : List ℕ) (a b : Result (Unit {0}) Refusal) → MatchResult a (λ _. Cells w) (λ e. (e ≡ Cell) × (Cells w → ⊥))
    → MatchResult b (λ _. Cells w) (λ e. (e ≡ Cell) × (Cells w → ⊥)) → a ≡ b
check_settled w (Ok x) (Ok y) h k = refl
check_settled w (Ok x) (Err e) h k = absurd (k.1 h)
check_settled w (Err d) (Ok y) h k = absurd (h.1 k)
check_settled w (Err d) (Err e) h k = ap Err (h.0 ∙ sym k.0)

pub number_of_settled : (w : List ℕ) {p q : ℕ} → Where ((length w ≤ 63) × Cells w) (p ≡ poly w) (p ≡ 0)
    → Where ((length w ≤ 63) × Cells w) (q ≡ poly w) (q ≡ 0) → p ≡ q
number_of_settled w a b = where_settled (λ h. a.holds h ∙ sym (b.holds h)) (λ f. a.fails f ∙ sym (b.fails f))

pub write_number_settled : (w : List ℕ) (p : ℕ) {u v : List ℕ} → u ≡ cells (length w) p → v ≡ cells (length w) p → u ≡ v
write_number_settled w p a b = a ∙ sym b
