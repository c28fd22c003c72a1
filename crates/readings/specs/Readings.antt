-- The better of two readings of one plate. a and b are the two words as they were read. Assumes nothing.
use Rattle.std.specs.Prelude.{◌≡◌, List, [], ◌∷◌, ◌++◌, ◌⊎◌, ℕ, ◌≤◌, ◌<◌, length}
use Rattle.std.specs.Int.Count.{ones}
use Rattle.poly.specs.Poly.{sum}
use Rattle.poly.specs.Cells.{Cells, poly}
use Rattle.verdict.specs.Verdict.{Check, Passed, Settles}
use Rattle.codes.specs.Mending.{Pattern, Mends, Readable, rule_checks}
use Rattle.codes.specs.Coding.{First}

-- ---- which word

-- Both are readable with the same message: their code words are c and d.
pub record Agree (P : ℕ → Type 0) (n g a b c d : ℕ) : Type 0 where
  pub first : Mends P n g a c
  pub second : Mends P n g b d
  pub message : ℕ
  pub of_first : First g message c
  pub of_second : First g message d

-- The second word: it is readable and the first isn't, or both are readable with the same message and the second has fewer cells to mend.
pub data SecondWord (P : ℕ → Type 0) (n g a b : ℕ) : Type 0 where
  alone : (Readable P n g a → ⊥) → Readable P n g b → SecondWord P n g a b
  fewer : (c d : ℕ) → Agree P n g a b c d → ones (sum b d) < ones (sum a c) → SecondWord P n g a b

-- The first word: it is readable, and either the second isn't, or the messages agree and the second hasn't fewer.
pub data FirstWord (P : ℕ → Type 0) (n g a b : ℕ) : Type 0 where
  only : Readable P n g a → (Readable P n g b → ⊥) → FirstWord P n g a b
  enough : (c d : ℕ) → Agree P n g a b c d → ones (sum a c) ≤ ones (sum b d) → FirstWord P n g a b

-- ---- the number

-- 6 unless both lent words have n cells.
abbrev pub both_check : ℕ → List ℕ → List ℕ → Check
both_check n a b = record { number = 6; passes = (length a ≡ n) × (length b ≡ n) }

-- 7 unless each cell of both is 0 or 1.
abbrev pub cells_check : List ℕ → List ℕ → Check
cells_check a b = record { number = 7; passes = Cells a × Cells b }

-- 10 if both are readable and their messages differ.
abbrev pub agree_check : ℕ → ℕ → ℕ → ℕ → ℕ → Check
agree_check n g rule a b = record {
  number = 10;
  passes = (c d m m' : ℕ) → Mends (Pattern n rule) n g a c → Mends (Pattern n rule) n g b d → First g m c → First g m' d → m ≡ m';
}

-- 8 if neither is readable.
abbrev pub either_check : ℕ → ℕ → ℕ → ℕ → ℕ → Check
either_check n g rule a b = record { number = 8; passes = Readable (Pattern n rule) n g a ⊎ Readable (Pattern n rule) n g b }

-- The checks numbered 1 to 7, those of the messages, and all of them.
abbrev pub words_checks : ℕ → ℕ → ℕ → List ℕ → List ℕ → List Check
words_checks n g rule a b = rule_checks n g rule ++ (both_check n a b ∷ cells_check a b ∷ [])

abbrev pub message_checks : ℕ → ℕ → ℕ → List ℕ → List ℕ → List Check
message_checks n g rule a b = agree_check n g rule (poly a) (poly b) ∷ either_check n g rule (poly a) (poly b) ∷ []

abbrev pub reading_checks : ℕ → ℕ → ℕ → List ℕ → List ℕ → List Check
reading_checks n g rule a b = words_checks n g rule a b ++ message_checks n g rule a b

-- ---- what is handed back

-- The word is taken, with the checks numbered 1 to 7 passed.
abbrev pub TakesFirst : ℕ → ℕ → ℕ → List ℕ → List ℕ → Type 0
TakesFirst n g rule a b = Passed (words_checks n g rule a b) × FirstWord (Pattern n rule) n g (poly a) (poly b)

abbrev pub TakesSecond : ℕ → ℕ → ℕ → List ℕ → List ℕ → Type 0
TakesSecond n g rule a b = Passed (words_checks n g rule a b) × SecondWord (Pattern n rule) n g (poly a) (poly b)

-- The number that goes with it: with 0 one of the two is taken, with any other none is.
abbrev pub Numbered : ℕ → ℕ → ℕ → List ℕ → List ℕ → ℕ → Type 0
Numbered n g rule a b m =
    Settles (reading_checks n g rule a b) m (TakesFirst n g rule a b ⊎ TakesSecond n g rule a b)
    ((TakesFirst n g rule a b → ⊥) × (TakesSecond n g rule a b → ⊥))

-- What goes with the first word, what goes with the second, or what goes with none.
pub record Picks {A : Type 0} (n g rule : ℕ) (a b : List ℕ) (first second : A) (None : A → Type 0) (picked : A) : Type 0 where
  pub takes_first : TakesFirst n g rule a b → picked ≡ first
  pub takes_second : TakesSecond n g rule a b → picked ≡ second
  pub takes_none : (TakesFirst n g rule a b → ⊥) → (TakesSecond n g rule a b → ⊥) → None picked
