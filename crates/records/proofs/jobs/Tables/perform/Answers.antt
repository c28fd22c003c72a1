-- A job is done on a word that it allows, and number 9 handed back else.
use Rattle.std.proofs.Common.{◌≡◌, ◌∙◌, ◌*◌, ◌%◌, ◌^◌, Err, arith, rules}
use Rattle.std.proofs.Math.Nat.{mod-eq_of_lt}
use Rattle.records.specs.Records.{E, P, RuleFits, WordFits}
use Rattle.tables.proofs.Plates.{plate_few, plate_degree}
use Rattle.poly.proofs.Times.{times_comm}
use Rattle.codes.proofs.Calls.{message_below}
use Rattle.records.proofs.Answering.{message_room, message_product, answers_systematic, answers_product, answers_remainder, answers_first, answers_quotient, refused_first, refused_quotient, plate_code}
use Rattle.records.proofs.jobs.Tables.perform.Goals as goal

pub overflow_shl-x : goal.overflow_shl-x
overflow_shl-x c = omega (arith, plate_few c.args.plate)

pub returns-in-E : goal.returns-in-E
returns-in-E c =
    let p = c.args.plate in
    let w = c.args.word in
    let a : RuleFits E c.args.rule × WordFits E p.n p.g w = rw c.in-E.is at (c.allows.ensures.yes c.if-not-allows.false) in
    let room = message_room (plate_code p) (plate_degree p) w (message_below (plate_code p) (plate_degree p) a.1) in
    let exact : w * 2 ^ p.r % 2 ^ 64 ≡ w * 2 ^ p.r = mod-eq_of_lt (omega (arith, room)) in
    rw (c.in-E.is, c.unmended.ensures.0, c.unmended.ensures.1, exact)
    (answers_systematic (plate_code p) (plate_degree p) c.args.rule w a (rw exact at c.remainder.ensures))

pub returns-in-P : goal.returns-in-P
returns-in-P c =
    let p = c.args.plate in
    let w = c.args.word in
    let a : RuleFits P c.args.rule × WordFits P p.n p.g w = rw c.in-P.is at (c.allows.ensures.yes c.if-not-allows.false) in
    let small = message_product (plate_code p) (plate_degree p) w (message_below (plate_code p) (plate_degree p) a.1) in
    rw (c.in-P.is, c.unmended-in-P.ensures.0, c.unmended-in-P.ensures.1)
    (answers_product (plate_code p) (plate_degree p) c.args.rule w a (c.times_number.ensures.holds small ∙ times_comm p.g w))

pub returns-in-S : goal.returns-in-S
returns-in-S c =
    let p = c.args.plate in
    let a = c.allows.ensures.yes c.if-not-allows.false in
    rw (c.in-S.is, c.unmended-in-S.ensures.0, c.unmended-in-S.ensures.1)
    (answers_remainder (plate_code p) (plate_degree p) c.args.rule c.args.word (rw c.in-S.is at a) c.remainder-in-S.ensures)

pub overflow_shr-result : goal.overflow_shr-result
overflow_shr-result c = omega (arith, plate_few c.args.plate)

pub overflow_shr-result-in-Q : goal.overflow_shr-result-in-Q
overflow_shr-result-in-Q c = omega (arith, plate_few c.args.plate)

pub returns-in_err-m-in-D : goal.returns-in_err-m-in-D
returns-in_err-m-in-D c =
    let p = c.args.plate in
    let e = c.in_err-m-in-D.ensures in
    let same : c.from_residual.result ≡ Err c.in_err-m-in-D.field-0.0 = search rules in
    rw (same, c.in-D.is) (refused_first (plate_code p) (plate_degree p) c.args.rule c.args.word (search rules) e.digits.0 e.mends)

pub returns-in_err-m-in-Q : goal.returns-in_err-m-in-Q
returns-in_err-m-in-Q c =
    let p = c.args.plate in
    let e = c.in_err-m-in-Q.ensures in
    let same : c.from_residual-in_err-m-in-Q.result ≡ Err c.in_err-m-in-Q.field-0.0 = search rules in
    rw (same, c.in-Q.is) (refused_quotient (plate_code p) (plate_degree p) c.args.rule c.args.word (search rules) e.digits.0 e.mends)

pub returns-in_ok-m-in-D : goal.returns-in_ok-m-in-D
returns-in_ok-m-in-D c =
    let p = c.args.plate in
    let e = c.in_ok-m-in-D.ensures in
    rw c.in-D.is (answers_first (plate_code p) (plate_degree p) c.args.rule c.args.word (search rules) e.digits.0 e.digits.1 e.mends)

pub returns-in_ok-m-in-Q : goal.returns-in_ok-m-in-Q
returns-in_ok-m-in-Q c =
    let p = c.args.plate in
    let e = c.in_ok-m-in-Q.ensures in
    rw c.in-Q.is
    (answers_quotient (plate_code p) (plate_degree p) c.args.rule c.args.word c.divide.result (search rules) e.digits.0 e.digits.1 e.mends c.divide.ensures)
