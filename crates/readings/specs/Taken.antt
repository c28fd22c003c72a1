-- The word taken as a number: 1 or 2, and 0 where none is. Assumes nothing.
use Rattle.std.specs.Prelude.{ℕ, Option, Some, None, Result, Ok, Err}
use Rattle.verdict.specs.declared.Refusal.{Refusal}
use Rattle.readings.specs.declared.Taken.{Taken}
use Rattle.readings.specs.declared.Taken.TheVariants.{First, Second}

abbrev pub word_number : Taken → ℕ
word_number First = 1
word_number Second = 2

abbrev pub taken_number : Option Taken → ℕ
taken_number (Some w) = word_number w
taken_number None = 0

abbrev pub taken_in : Result Taken Refusal → ℕ
taken_in (Ok w) = word_number w
taken_in (Err e) = 0
