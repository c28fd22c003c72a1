-- The pattern with the word's remainder, if there is one, makes the word a code word.
use mathlib.Core.Path.{refl}
use native.Mathlib.Nat.{div-eq_of_lt}
use Rattle.poly.proofs.Degree.{high_zero}
use Rattle.poly.proofs.Division.{remainder_of}
use Rattle.codes.proofs.Checking.{allowed_zero}
use Rattle.codes.proofs.Finding.{word_refused, pattern_found, none_found}
use Rattle.numbers.proofs.Fitting.{code_divided}
use Rattle.numbers.proofs.find_code.Goals as goal

pub returns-then-word-n-ne0 : goal.returns-then-word-n-ne0
returns-then-word-n-ne0 c = word_refused (allowed_zero c.in_ok-code.ensures.checks refl) (λ l. c.if-word-n-ne0.true (div-eq_of_lt l))

pub returns-in_default : goal.returns-in_default
returns-in_default c =
    let e = c.in_ok-code.ensures.code in
    let a = allowed_zero c.in_ok-code.ensures.checks refl in
    none_found a (high_zero _ _ c.if-word-n-ne0.false) (remainder_of (code_divided a.code c.divide_number-parts.ensures)) (rw (e.0, e.1) at c.in_default.ensures)

pub returns : goal.returns
returns c =
    let e = c.in_ok-code.ensures.code in
    let a = allowed_zero c.in_ok-code.ensures.checks refl in
    let f = rw (e.0, e.1) at c.in-Some.ensures in
    pattern_found a (high_zero _ _ c.if-word-n-ne0.false) (remainder_of (code_divided a.code c.divide_number-parts.ensures)) f.0 f.1 refl
