-- The mending rules: their patterns, whether a code carries them, and what it is to mend a word. Assumes nothing.
use Rattle.std.specs.Prelude.{◌≡◌, List, [], ◌∷◌, ◌++◌, ℕ, suc, ◌-◌, ◌^◌, ◌≤◌, ◌<◌}
use Rattle.poly.specs.Poly.{sum, Remainder}
use Rattle.verdict.specs.Verdict.{Check}
use Rattle.codes.specs.Code.{code_checks, CodeWord}

-- A pattern is a set of places of n, here as the polynomial that has their powers. Rule 0 has the empty pattern only. Rule 1 adds each single
-- cell. Rule 2 adds also each two neighbouring cells; as the code is cyclic, the first and the last cell count as neighbours. (For n = 2 these
-- two are neighbours anyway: `pair 0` and `ends` are one set.)
pub data Pattern (n rule : ℕ) : ℕ → Type 0 where
  none : Pattern n rule 0
  single : (i : ℕ) → i < n → 1 ≤ rule → Pattern n rule (2 ^ i)
  pair : (i : ℕ) → suc i < n → 2 ≤ rule → Pattern n rule (sum (2 ^ suc i) (2 ^ i))
  ends : 2 ≤ rule → Pattern n rule (sum (2 ^ (n - 1)) 1)

-- No two different patterns have the same remainder. `P e`: the places of e are a pattern.
abbrev pub Carries : (ℕ → Type 0) → ℕ → Type 0
Carries P g = (e f s : ℕ) → P e → P f → Remainder e g s → Remainder f g s → e ≡ f

-- 4 unless the rule is 0, 1 or 2.
abbrev pub rule_check : ℕ → Check
rule_check rule = record { number = 4; passes = rule ≤ 2 }

-- 5 unless the code carries the rule.
abbrev pub carry_check : ℕ → ℕ → ℕ → Check
carry_check n g rule = record { number = 5; passes = Carries (Pattern n rule) g }

-- The checks of a rule, and of a code and a rule, in their order.
abbrev pub carry_checks : ℕ → ℕ → ℕ → List Check
carry_checks n g rule = rule_check rule ∷ carry_check n g rule ∷ []

abbrev pub rule_checks : ℕ → ℕ → ℕ → List Check
rule_checks n g rule = code_checks n g ++ carry_checks n g rule

-- The code word c differs from the word w in a pattern.
pub record Mends (P : ℕ → Type 0) (n g w c : ℕ) : Type 0 where
  pub code : CodeWord n g c
  pub pattern : P (sum w c)

-- Some code word does: the word is readable.
abbrev pub Readable : (ℕ → Type 0) → ℕ → ℕ → ℕ → Type 0
Readable P n g w = (c : ℕ) × Mends P n g w c
