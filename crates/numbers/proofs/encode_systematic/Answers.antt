-- The remainder of x^r times the message stands below it.
use mathlib.Core.Path.{refl}
use mathlib.Core.List.{[], ◌∷◌, ◌++◌}
use Rattle.verdict.proofs.Verdict.{verdict_passed, settles_yes}
use Rattle.codes.specs.Code.{code_checks}
use Rattle.codes.specs.Calls.{message_check}
use Rattle.numbers.proofs.Fitting.{message_shl, systematic_made, passed_code, passed_message}
use Rattle.numbers.proofs.encode_systematic.Goals as goal

pub returns : goal.returns
returns c =
    let a = c.args in
    let x = c.in_ok-code in
    let checks = code_checks a.n a.g ++ (message_check a.n a.g a.message ∷ []) in
    let p = verdict_passed checks tt x.ensures.checks refl in
    let d = rw x.ensures.code.1 at x.code.given.degree in
    let whole = message_shl (passed_code p) d (passed_message p) in
    settles_yes checks tt p (rw whole (systematic_made (passed_code p) d (rw whole at c.divide_number-parts.ensures)))
