-- After the checks of the code those of the rule decide.
use mathlib.Core.Logic.{inl, inr}
use mathlib.Core.Path.{refl}
use native.Mathlib.Omega.{arith}
use Rattle.codes.specs.Mending.{carry_checks}
use Rattle.codes.proofs.Checking.{code_decides}
use Rattle.codes.proofs.Code.carrying.Goals as goal

pub returns-then-not-carries-clause-checks : goal.returns-then-not-carries-clause-checks
returns-then-not-carries-clause-checks c =
    let e = c.in_ok-code.ensures.code in
    let t = rw (e.0, e.1) at c.carries.ensures in
    code_decides (carry_checks c.args.n c.args.g c.args.rule) c.in_ok-code.ensures.checks (inr (omega arith, inl (t.no c.if-not-carries.true, refl)))

pub returns-clause-checks : goal.returns-clause-checks
returns-clause-checks c =
    let e = c.in_ok-code.ensures.code in
    let t = rw (e.0, e.1) at c.carries.ensures in
    code_decides (carry_checks c.args.n c.args.g c.args.rule) c.in_ok-code.ensures.checks (inr (omega arith, inr (t.yes c.if-not-carries.false, refl)))
