-- What stands at digit r of t is the feedback, 0 or 1.
use native.Mathlib.Omega.{arith}
use mathlib.Core.Path.{sym}
use Rattle.poly.proofs.Division.{top_digit, reduce-zero, reduce_one}
use Rattle.poly.proofs.reduced.Goals as goal

pub returns-then-t-r-eq0 : goal.returns-then-t-r-eq0
returns-then-t-r-eq0 c = let a = c.args in sym (reduce-zero a.r a.g a.t c.if-t-r-eq0.true)

pub returns-else-t-r-eq0 : goal.returns-else-t-r-eq0
returns-else-t-r-eq0 c =
    let a = c.args in
    sym (reduce_one a.r a.g a.t (omega (arith, top_digit a.r a.t c.requires.1)))
