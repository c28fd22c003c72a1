-- A call runs its checks in order. The number that it hands back is that of the first check that fails, and 0 if none does.
-- Assumes nothing.
use Rattle.std.specs.Prelude.{◌≡◌, Bool, true, false, cond, List, [], ◌∷◌, ◌⊎◌, ℕ, T, eqb}

-- A check: the number that it gives, and what it asks.
pub record Check : Type 1 where
  pub number : ℕ
  pub passes : Type 0

-- The number of the first check that fails, and 0 if none does.
abbrev pub Verdict : List Check → ℕ → Type 0
Verdict [] m = m ≡ 0
Verdict (c ∷ cs) m = ((c.passes → ⊥) × (m ≡ c.number)) ⊎ (c.passes × Verdict cs m)

-- Every check passes.
abbrev pub Passed : List Check → Type 0
Passed [] = Unit {0}
Passed (c ∷ cs) = c.passes × Passed cs

-- Checks run in this order, those that a call has.
abbrev pub order : List ℕ
order = 11 ∷ 1 ∷ 2 ∷ 3 ∷ 4 ∷ 5 ∷ 6 ∷ 7 ∷ 10 ∷ 8 ∷ []

-- The checks' numbers are some of those, in their order.
abbrev pub among : List Check → List ℕ → Bool
among [] ms = true
among (c ∷ cs) [] = false
among (c ∷ cs) (m ∷ ms) = cond (eqb c.number m) (among cs ms) (among (c ∷ cs) ms)

-- What a call settles: its checks stand in their order and give the number; with 0 what was done, and with any other what a refusal leaves.
pub record Settles (checks : List Check) (number : ℕ) (Done Refused : Type 0) : Type 0 where
  pub ordered : T (among checks order)
  pub verdict : Verdict checks number
  pub done : number ≡ 0 → Done
  pub refused : (number ≡ 0 → ⊥) → Refused

-- A test tells whether A holds.
pub record Tells (A : Type 0) (b : Bool) : Type 0 where
  pub yes : b ≡ true → A
  pub no : b ≡ false → A → ⊥

-- What a call without a number gives where A holds, and where it doesn't.
pub record Where (A Then Else : Type 0) : Type 0 where
  pub holds : A → Then
  pub fails : (A → ⊥) → Else
