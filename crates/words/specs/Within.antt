-- What private functions promise. Assumes nothing.
use Rattle.std.specs.Prelude.{◌≡◌, List, ℕ, ◌-◌, ◌^◌, ◌<◌, ◌++◌, length}
use Rattle.poly.specs.Cells.{Cells, poly, cells}
use Rattle.verdict.specs.Verdict.{Check}
use Rattle.codes.specs.Code.{MessageLength, CodeWord}
use Rattle.codes.specs.Calls.{Written}

-- `slices_check` of a message and a word of these lengths.
abbrev pub lengths_check : ℕ → ℕ → ℕ → ℕ → Check
lengths_check n g message word = record { number = 6; passes = MessageLength n g message × (word ≡ n) }

-- How a word c of a message is written into lent cells: the message's cells and then the low digits of c, or the digits of c alone.
abbrev pub written_systematic : List ℕ → List ℕ → ℕ → List ℕ
written_systematic message word c = message ++ cells (length word - length message) c

abbrev pub written_product : List ℕ → List ℕ → ℕ → List ℕ
written_product message word c = cells (length word) c

-- What is written into n lent cells stands for the word of the message.
abbrev pub Stands : (ℕ → ℕ → ℕ → Type 0) → (List ℕ → List ℕ → ℕ → List ℕ) → Type 0
Stands Word written = (n g c : ℕ) (message word : List ℕ) → Word g (poly message) c → MessageLength n g (length message) → Cells message
    → length word ≡ n → Written n (written message word c) c

-- The message of a code word has at most k cells.
abbrev pub Fits : (ℕ → ℕ → ℕ → Type 0) → Type 0
Fits Says = (n g c d k : ℕ) → CodeWord n g c → MessageLength n g k → Says g d c → d < 2 ^ k
