-- What is left of the 63 digits past the leading zeros is the place of the highest digit.
use native.Mathlib.Omega.{arith}
use borrow.Author.Rules.{rules}
use Rattle.verdict.proofs.Verdict.{where_holds}
use Rattle.poly.proofs.Degree.{leading_degree}
use Rattle.poly.proofs.degree_of.Goals as goal

pub returns : goal.returns
returns c = where_holds (omega arith) (leading_degree 64 c.args.p (omega arith) (search rules))
