-- What the searches for a code word promise the decoders. Assumes nothing.
use Rattle.std.specs.Prelude.{◌≡◌, [], ◌∷◌, ◌++◌, ℕ}
use Rattle.std.specs.Int.Count.{ones}
use Rattle.poly.specs.Poly.{sum}
use Rattle.verdict.specs.Verdict.{Settles}
use Rattle.codes.specs.Mending.{Pattern, Mends, rule_checks}
use Rattle.codes.specs.Calls.{word_check, readable_check}

-- The code word that differs from the word in a pattern, and the number of cells in it.
abbrev pub FindsCode : ℕ → ℕ → ℕ → ℕ → ℕ → ℕ → ℕ → Type 0
FindsCode n g rule w number code mended =
    Settles (rule_checks n g rule ++ (word_check n w ∷ readable_check n g rule w ∷ [])) number
    (Mends (Pattern n rule) n g w code × (mended ≡ ones (sum w code))) ((code ≡ 0) × (mended ≡ 0))
