-- What the search for the places to mend goes through. Assumes nothing.
use Rattle.std.specs.Prelude.{ℕ, ◌*◌, ◌^◌, ◌<◌, Option, Some, None, Result, Ok, Err}
use Rattle.poly.specs.Poly.{Remainder}
use Rattle.verdict.specs.declared.Refusal.{Refusal}
use Rattle.numbers.specs.declared.Mending.{Mending}

-- No place below m where x^i times e has the remainder s.
abbrev pub NoShift : ℕ → ℕ → ℕ → ℕ → Type 0
NoShift e g s m = (j : ℕ) → j < m → Remainder (e * 2 ^ j) g s → ⊥

-- The first place below m where it has.
pub record IsFirst (e g s m i : ℕ) : Type 0 where
  pub within : i < m
  pub before : NoShift e g s i
  pub at : Remainder (e * 2 ^ i) g s

abbrev pub FirstShift : ℕ → ℕ → ℕ → ℕ → Option ℕ → Type 0
FirstShift e g s m (Some i) = IsFirst e g s m i
FirstShift e g s m None = NoShift e g s m

-- The places are a pattern with the remainder s; or there is none.
abbrev pub Finds : (ℕ → Type 0) → ℕ → ℕ → Option ℕ → Type 0
Finds P g s (Some e) = P e × Remainder e g s
Finds P g s None = (e : ℕ) → P e → Remainder e g s → ⊥

-- What stands beside the number: zeros beside a refusal.
abbrev pub code_found : Result Mending Refusal → ℕ
code_found (Ok x) = x.code
code_found (Err e) = 0

abbrev pub mended_found : Result Mending Refusal → ℕ
mended_found (Ok x) = x.mended
mended_found (Err e) = 0
