-- The letter's job, done for the family's plate.
use Rattle.std.proofs.Common.{◌≡◌, ◌+◌, arith, rules}
use Rattle.verdict.specs.Refusal.{number}
use Rattle.records.specs.Records.{letter_of}
use Rattle.records.specs.Steps.{Answered, count_of, value_of, fields}
use Rattle.records.proofs.Giving.{gives_plate}
use Rattle.records.proofs.jobs.Tables.answer.Goals as goal

pub returns-clause-gives : goal.returns-clause-gives
returns-clause-gives c =
    let x = c.args.«record» in
    let job = c.in_ok-job.job in
    let p = c.in_ok-plate.plate in
    let r = c.perform.result in
    let letter : x.letter ≡ letter_of job = search rules in
    let family : p.f + 1 ≡ x.family = search rules in
    let done : Answered job p.n p.g x.rule x.word (number r) (count_of r) (value_of r) = grind arith in
    gives_plate (fields x) job p letter family c.if-record-ne0.false done
