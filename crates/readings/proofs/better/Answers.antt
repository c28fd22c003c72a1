-- The word chosen is the slice that was lent; else its first no cells.
use mathlib.Core.List.{[]}
use mathlib.Core.Path.{◌≡◌, refl, ap}
use native.Mathlib.Omega.{arith}
use Rattle.readings.specs.Taken.{word_number}
use Rattle.readings.proofs.Choosing.{picks_first, picks_second, picks_none}
use Rattle.readings.proofs.better.Goals as goal

pub returns-in-Ok-First : goal.returns-in-Ok-First
returns-in-Ok-First c = picks_first (rw c.in-Ok-First.is at c.choose.ensures) c.args.first c.args.second (λ h. h.now ≡ []) (ap word_number c.in-Ok-First.field-0-is)

pub returns-in-Ok-Second : goal.returns-in-Ok-Second
returns-in-Ok-Second c = picks_second (rw c.in-Ok-Second.is at c.choose.ensures) c.args.first c.args.second (λ h. h.now ≡ []) (ap word_number c.in-Ok-Second.field-0-is)

pub returns-in-Err : goal.returns-in-Err
returns-in-Err c = picks_none (rw c.in-Err.is at c.choose.ensures) c.args.first c.args.second (λ h. h.now ≡ []) _ (λ e. omega (arith, e)) (λ e. omega (arith, e)) refl
