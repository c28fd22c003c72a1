-- The product of a message of k cells with g has n digits.
use mathlib.Core.Path.{refl}
use mathlib.Core.List.{[], ◌∷◌, ◌++◌}
use Rattle.verdict.proofs.Verdict.{verdict_passed, settles_yes}
use Rattle.codes.specs.Code.{code_checks}
use Rattle.codes.specs.Calls.{message_check}
use Rattle.numbers.proofs.Fitting.{product_made, passed_code, passed_message}
use Rattle.numbers.proofs.encode_product.Goals as goal

pub returns : goal.returns
returns c =
    let a = c.args in
    let checks = code_checks a.n a.g ++ (message_check a.n a.g a.message ∷ []) in
    let p = verdict_passed checks tt c.in_ok-message_code.ensures.checks refl in
    settles_yes checks tt p (product_made (passed_code p) (passed_message p) c.times_number.ensures)
