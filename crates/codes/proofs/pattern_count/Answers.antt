-- The row's length by cases of the rule.
use mathlib.Core.Path.{sym}
use native.Mathlib.Omega.{arith}
use Rattle.codes.proofs.Row.{count_none, count_single, count_pairs, count_pair}
use Rattle.codes.proofs.pattern_count.Goals as goal

pub returns-in-0-clause-count : goal.returns-in-0-clause-count
returns-in-0-clause-count c = let a = c.args in sym (count_none a.n a.rule c.in-0.is)

pub returns-in-1-clause-count : goal.returns-in-1-clause-count
returns-in-1-clause-count c = let a = c.args in sym (count_single a.n a.rule c.in-1.is)

pub returns-in_default-clause-count : goal.returns-in_default-clause-count
returns-in_default-clause-count c = let a = c.args in sym (count_pairs a.n a.rule (omega arith) c.if-n-gt2.true)

pub returns-in_default-2-clause-count : goal.returns-in_default-2-clause-count
returns-in_default-2-clause-count c = let a = c.args in sym (count_pair a.n a.rule (omega arith) c.if-n-gt2.false)
