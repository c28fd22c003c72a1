-- A message has at most k = n - r cells exactly if nothing stands from digit k on.
use mathlib.Core.List.{[], ◌∷◌}
use mathlib.Core.Logic.{inl}
use mathlib.Core.Path.{refl}
use Rattle.codes.specs.Calls.{message_check}
use Rattle.codes.proofs.Checking.{code_zero, code_decides}
use Rattle.numbers.proofs.Fitting.{message_large}
use Rattle.numbers.proofs.message_code.Goals as goal

pub returns-then-message-n-ne0-clause-checks : goal.returns-then-message-n-ne0-clause-checks
returns-then-message-n-ne0-clause-checks c =
    let a = c.args in
    let x = c.in_ok-code in
    let k = code_zero x.ensures.checks refl in
    code_decides (message_check a.n a.g a.message ∷ []) x.ensures.checks
    (inl (message_large k (rw x.ensures.code.1 at x.code.given.degree) c.if-message-n-ne0.true, refl))
