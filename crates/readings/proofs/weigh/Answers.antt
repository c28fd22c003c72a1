-- Each way out is a case.
use mathlib.Core.Path.{refl}
use Rattle.verdict.proofs.Verdict.{number_of_nonzero}
use Rattle.readings.specs.Within.{neither, only_second, only_first, differ, fewer, enough}
use Rattle.readings.proofs.weigh.Goals as goal

pub returns-in-Err-Err : goal.returns-in-Err-Err
returns-in-Err-Err c =
    let r = c.in-Err-Err in
    rw (r.is-0, r.is-1) (neither (number_of_nonzero r.field-0-0) (number_of_nonzero r.field-0-1))

pub returns-in-Err-Ok : goal.returns-in-Err-Ok
returns-in-Err-Ok c =
    let r = c.in-Err-Ok in
    rw (r.is-0, r.is-1) (only_second (number_of_nonzero r.field-0-0) refl)

pub returns-in-Ok-Err : goal.returns-in-Ok-Err
returns-in-Ok-Err c =
    let r = c.in-Ok-Err in
    rw (r.is-0, r.is-1) (only_first refl (number_of_nonzero r.field-0-1))

pub returns-then-a-b : goal.returns-then-a-b
returns-then-a-b c =
    let r = c.in-Ok-Ok in
    rw (r.is-0, r.is-1) (differ refl refl c.if-a-b.true)

pub returns-then-b-a : goal.returns-then-b-a
returns-then-b-a c =
    let r = c.in-Ok-Ok in
    rw (r.is-0, r.is-1) (fewer refl refl c.if-a-b.false c.if-b-a.true)

pub returns-else-b-a : goal.returns-else-b-a
returns-else-b-a c =
    let r = c.in-Ok-Ok in
    rw (r.is-0, r.is-1) (enough refl refl c.if-a-b.false c.if-b-a.false)
