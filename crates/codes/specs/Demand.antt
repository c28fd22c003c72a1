-- Demand 2: from message to word by either rule, and from word back to the same message. `Word g d c` says that c is the word of the message d, and
-- `Says g d c` that d is the message of the code word c. Assumes nothing.
use Rattle.std.specs.Prelude.{◌≡◌, List, ℕ, length}
use Rattle.verdict.specs.Verdict.{Passed}
use Rattle.codes.specs.Mending.{carry_checks}
use Rattle.codes.specs.Calls.{Encodes, Decodes, EncodesCells, DecodesCells}

-- On numbers: the message d is encoded, and its word is decoded to d, with nothing mended, under every mending rule that passes. (Rule 0 always does:
-- `rule_0_carried`.)
pub record Returns (Word Says : ℕ → ℕ → ℕ → Type 0) (n g d : ℕ) : Type 0 where
  pub encoded : (number word : ℕ) → Encodes Word n g d number word → number ≡ 0
  pub decoded : (rule number word number' message mended : ℕ) → Passed (carry_checks n g rule) → Encodes Word n g d number word
      → Decodes Says n g rule word number' message mended → (number' ≡ 0) × (message ≡ d) × (mended ≡ 0)

-- On lent cells: n for the word, and as many as the message has for the message that comes back.
pub record ReturnsCells (Word Says : ℕ → ℕ → ℕ → Type 0) (n g : ℕ) (message : List ℕ) : Type 0 where
  pub encoded : (word word' : List ℕ) (number : ℕ) → length word ≡ n → EncodesCells Word n g message word word' number → number ≡ 0
  pub decoded : (rule number number' mended : ℕ) (word word' lent lent' : List ℕ) → Passed (carry_checks n g rule) → length word ≡ n
      → length lent ≡ length message → EncodesCells Word n g message word word' number → DecodesCells Says n g rule word' lent lent' number' mended
      → (number' ≡ 0) × (lent' ≡ message) × (mended ≡ 0)
