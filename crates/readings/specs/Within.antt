-- What private functions promise. Assumes nothing.
use Rattle.std.specs.Prelude.{◌≡◌, Result, List, ℕ, ◌≤◌, ◌<◌}
use Rattle.numbers.specs.declared.Decoding.{Decoding}
use Rattle.numbers.specs.Results.{message, mended}
use Rattle.verdict.specs.Refusal.{number}
use Rattle.verdict.specs.declared.Refusal.{Refusal}
use Rattle.verdict.specs.Verdict.{Verdict}
use Rattle.readings.specs.Readings.{reading_checks, TakesFirst, TakesSecond}

-- Two decodings weighed: the number, and which word, 1 or 2, or none.
pub data Weighs (x y : Result Decoding Refusal) : ℕ → ℕ → Type 0 where
  neither : (number x ≡ 0 → ⊥) → (number y ≡ 0 → ⊥) → Weighs x y 8 0
  only_second : (number x ≡ 0 → ⊥) → number y ≡ 0 → Weighs x y 0 2
  only_first : number x ≡ 0 → (number y ≡ 0 → ⊥) → Weighs x y 0 1
  differ : number x ≡ 0 → number y ≡ 0 → (message x ≡ message y → ⊥) → Weighs x y 10 0
  fewer : number x ≡ 0 → number y ≡ 0 → message x ≡ message y → mended y < mended x → Weighs x y 0 2
  enough : number x ≡ 0 → number y ≡ 0 → message x ≡ message y → mended x ≤ mended y → Weighs x y 0 1

-- The number of two readings, and which word is taken.
pub record Chosen (n g rule : ℕ) (a b : List ℕ) (number word : ℕ) : Type 0 where
  pub verdict : Verdict (reading_checks n g rule a b) number
  pub first : word ≡ 1 → TakesFirst n g rule a b
  pub second : word ≡ 2 → TakesSecond n g rule a b
  pub none : (word ≡ 1 → ⊥) → (word ≡ 2 → ⊥) → (TakesFirst n g rule a b → ⊥) × (TakesSecond n g rule a b → ⊥)
  pub zero : number ≡ 0 → (word ≡ 1 → ⊥) → word ≡ 2
  pub other : (number ≡ 0 → ⊥) → (word ≡ 1 → ⊥) × (word ≡ 2 → ⊥)
