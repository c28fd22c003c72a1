-- The checks in their order, and then the two decodings weighed.
use mathlib.Core.Logic.{inl, inr}
use mathlib.Core.Path.{refl}
use native.Mathlib.Omega.{arith}
use Rattle.verdict.proofs.Verdict.{refused_as}
use Rattle.readings.proofs.Choosing.{code_refused, code_allowed, words_refused, weighed}
use Rattle.readings.proofs.choose.Goals as goal

pub returns-in_err-early : goal.returns-in_err-early
returns-in_err-early c =
    let a = c.args in
    let e = c.in_err-early.ensures.early in
    rw (refused_as c.from_residual.result c.from_residual.ensures.1, ← e.0)
    (code_refused a.n a.g a.rule a.first.now a.second.now c.decode_systematic-x.ensures (rw e.0 (e.1, e.2)))

pub returns-in_err-check : goal.returns-in_err-check
returns-in_err-check c =
    let a = c.args in
    let e = c.in_err-check.ensures in
    rw (refused_as c.from_residual-in_err-check.result c.from_residual-in_err-check.ensures.1, e.0)
    (words_refused a.n a.g a.rule a.first.now a.second.now
    (code_allowed a.n a.g a.rule a.first.now a.second.now c.decode_systematic-x.ensures c.in_ok-early.ensures.late) (λ z. omega (arith, z))
    (inr ((c.if-first-n.false, c.if-second-n.false), inl ((λ k. e.1 k.0), refl))))

pub returns-in_err-check-2 : goal.returns-in_err-check-2
returns-in_err-check-2 c =
    let a = c.args in
    let e = c.in_err-check-2.ensures in
    rw (refused_as c.from_residual-in_err-check-2.result c.from_residual-in_err-check-2.ensures.1, e.0)
    (words_refused a.n a.g a.rule a.first.now a.second.now
    (code_allowed a.n a.g a.rule a.first.now a.second.now c.decode_systematic-x.ensures c.in_ok-early.ensures.late) (λ z. omega (arith, z))
    (inr ((c.if-first-n.false, c.if-second-n.false), inl ((λ k. e.1 k.1), refl))))

pub returns : goal.returns
returns c =
    let a = c.args in
    weighed a.n a.g a.rule a.first.now a.second.now
    (code_allowed a.n a.g a.rule a.first.now a.second.now c.decode_systematic-x.ensures c.in_ok-early.ensures.late) (c.if-first-n.false, c.if-second-n.false)
    (c.in_ok-check.ensures, c.in_ok-check-2.ensures)
    c.decode_systematic-x.result c.decode_systematic-y.result c.decode_systematic-x.ensures
    c.decode_systematic-y.ensures c.number_of.ensures c.number_of-2.ensures c.weigh.ensures
