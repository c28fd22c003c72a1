-- The number of document 01 for each refusal, and what a call hands back as a number and a value. Assumes nothing.
use Rattle.std.specs.Prelude.{ℕ, Result, Ok, Err}
use Rattle.verdict.specs.declared.Refusal.{Refusal}
use Rattle.verdict.specs.declared.Refusal.TheVariants.{Length, Generator, NotCyclic, Rule, NotCarried, Lent, Cell, Unreadable, Record, Differ, Form}

abbrev pub number_of : Refusal → ℕ
number_of Length = 1
number_of Generator = 2
number_of NotCyclic = 3
number_of Rule = 4
number_of NotCarried = 5
number_of Lent = 6
number_of Cell = 7
number_of Unreadable = 8
number_of Record = 9
number_of Differ = 10
number_of Form = 11

-- The number handed back: 0 where it was done.
abbrev pub number : {A : Type 0} → Result A Refusal → ℕ
number (Ok x) = 0
number (Err e) = number_of e

-- The value beside it: 0 beside a refusal.
abbrev pub value : Result ℕ Refusal → ℕ
value (Ok x) = x
value (Err e) = 0
