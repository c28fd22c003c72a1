-- The texts of the lines, as they are put together, and their lengths.
-- Assumes nothing.
use mathlib.Core.Path.{◌≡◌}
use mathlib.Core.List.{[], ◌∷◌, ◌++◌}
use Prim.Native.Nat.{ℕ, ◌+◌, ◌^◌, ◌≤◌, ◌<◌}
use native.Mathlib.Omega.{arith}
use lib.ListN.{length, length-append}
use Rattle.text.specs.Text.{decimal}
use Rattle.text.proofs.Decimal.{decimal_one, decimal_most_64}
use Rattle.records.specs.Records.{Record, shown, line_of, short_of}

module _ (x : Record) (number count value : ℕ) (one : number < 10) (two : count < 10) where
  -- station, seven bytes, value and line feed
  pub line_text : line_of x number count value
      ≡ decimal x.station ++ ((32 ∷ shown x.letter ∷ 32 ∷ (48 + number) ∷ 32 ∷ (48 + count) ∷ 32 ∷ []) ++ (decimal value ++ (10 ∷ [])))
  line_text = rw (decimal_one number one, decimal_one count two)

  pub line_short : x.station < 2 ^ 64 → value < 2 ^ 64 → length (line_of x number count value) ≤ 64
  line_short s v = rw line_text (simp length-append (omega (arith, decimal_most_64 x.station s, decimal_most_64 value v)))

pub short_short : (count : ℕ) → count < 2 ^ 64 → length (short_of count) ≤ 64
short_short count l = simp length-append (omega (arith, decimal_most_64 count l))
