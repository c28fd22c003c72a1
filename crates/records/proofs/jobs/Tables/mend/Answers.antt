-- The checks of the rule, and then the pattern with the word's remainder.
use Rattle.std.proofs.Common.{arith}
use Rattle.tables.proofs.Entering.{family_cells}
use Rattle.tables.proofs.Row.{pattern_cells}
use Rattle.records.proofs.Answering.{mending_unknown, mending_uncarried, plate_code, uncarried, plate_mends, plate_unreadable}
use Rattle.records.proofs.jobs.Tables.mend.Goals as goal

pub returns-then-rule-gt2-clause-mends : goal.returns-then-rule-gt2-clause-mends
returns-then-rule-gt2-clause-mends c = mending_unknown (plate_code c.args.plate) c.args.rule c.args.w c.if-rule-gt2.true

pub returns-then-plate-rule-clause-mends : goal.returns-then-plate-rule-clause-mends
returns-then-plate-rule-clause-mends c =
    let p = c.args.plate in
    mending_uncarried (plate_code p) c.args.rule c.args.w c.if-rule-gt2.false
    (rw p.generator (uncarried p.family c.if-rule-gt2.false (rw p.carried at c.if-plate-rule.true)))

pub returns-in_default-clause-mends : goal.returns-in_default-clause-mends
returns-in_default-clause-mends c =
    plate_unreadable c.args.plate c.requires c.if-plate-rule.false c.remainder-s.ensures c.in_default.ensures

pub returns-clause-mends : goal.returns-clause-mends
returns-clause-mends c =
    rw c.from.ensures (plate_mends c.args.plate c.requires c.if-plate-rule.false c.remainder-s.ensures c.in-Some.ensures)

pub returns-clause-digits : goal.returns-clause-digits
returns-clause-digits c = (omega arith, omega (arith, c.from.ensures, pattern_cells (family_cells c.args.plate.family).0 c.in-Some.ensures.1))
