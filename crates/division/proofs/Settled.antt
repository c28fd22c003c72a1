-- Each call's promise has one result: number, remainder, and the quotient that is left.
-- Assumes nothing.
use mathlib.Core.Path.{◌≡◌, sym, ◌∙◌}
use mathlib.Core.List.{List}
use Prim.Native.Nat.{ℕ}
use Rattle.poly.proofs.Cells.{poly_injective}
use Rattle.poly.proofs.Division.{quotient_unique, remainder_unique}
use Rattle.verdict.specs.Verdict.{Check, Settles}
use Rattle.verdict.proofs.Verdict.{verdict_settled, settled}
use Rattle.division.specs.Division.{Quotient, DividesCells, LeavesLow, LeavesHigh}
use Rattle.division.proofs.Growing.{quotient_remainder, high_remainder}

-- two calls give one number
numbers_same : {cs : List Check} {m n : ℕ} {D E R S : Type 0} → Settles cs m D R → Settles cs n E S → m ≡ n
numbers_same {cs} a b = verdict_settled cs a.verdict b.verdict

-- and one remainder where two remainders are equal, as a refusal has none
both_same : {cs : List Check} {m n s t : ℕ} {D E : Type 0} → (D → E → s ≡ t) → Settles cs m D (s ≡ 0) → Settles cs n E (t ≡ 0) → (m ≡ n) × (s ≡ t)
both_same f a b = (numbers_same a b, settled a b (λ p z e x y. f x y) (λ e x y. x ∙ sym y))

module _ (w : List ℕ) (g : ℕ) where
  -- a dividend has one quotient
  quotient_same : {p q : List ℕ} {s t : ℕ} → Quotient w g p s → Quotient w g q t → p ≡ q
  quotient_same {p} {q} a b =
      poly_injective p q (a.long ∙ sym b.long) a.cells b.cells (quotient_unique a.divided b.divided)

  pub divide_settled : (q : List ℕ) {p p' : List ℕ} {m n s t : ℕ} → DividesCells w g q p m s → DividesCells w g q p' n t
      → (m ≡ n) × (s ≡ t) × (p ≡ p')
  divide_settled q a b = (
    numbers_same a b,
    settled a b (λ c z e x y. remainder_unique (quotient_remainder x) (quotient_remainder y)) (λ e x y. cc (x.1, y.1)),
    settled a b (λ c z e x y. quotient_same x y) (λ e x y. x.0 ∙ sym y.0),
  )

  pub remainder_low_settled : {m n s t : ℕ} → LeavesLow w g m s → LeavesLow w g n t → (m ≡ n) × (s ≡ t)
  remainder_low_settled = both_same remainder_unique

  pub remainder_high_settled : {m n s t : ℕ} → LeavesHigh w g m s → LeavesHigh w g n t → (m ≡ n) × (s ≡ t)
  remainder_high_settled = both_same λ a b. remainder_unique a.remainder (high_remainder a.degree b)
