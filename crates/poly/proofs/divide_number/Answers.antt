-- A divisor other than 0 below 2^33 is one of degree up to 32, by which long division goes.
use native.Mathlib.Omega.{arith}
use Rattle.verdict.proofs.Verdict.{where_fails}
use Rattle.poly.proofs.Degree.{power_lt}
use Rattle.poly.proofs.divide_number.Goals as goal

pub returns-then-g-eq0 : goal.returns-then-g-eq0
returns-then-g-eq0 c =
    let r = c.degree_of-r in
    where_fails (λ h. omega (arith, c.then-g-eq0.either, h.0, power_lt c.args.g r.result 33 (r.ensures.holds h.0).least h.1)) c.default.ensures
