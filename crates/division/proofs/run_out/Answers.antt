use native.Mathlib.Numerals.{add-one}
use native.Mathlib.Omega.{arith}
use borrow.Author.Rules.{rules}
use lib.ListN.{length-set}
use Rattle.division.proofs.Growing.{quotient_empty, quotient_next, fit_ready}
use Rattle.division.proofs.run_out.Goals as goal

pub loop-i-init : goal.loop-i-init
loop-i-init c = (c.requires.quotient_len, quotient_empty c.requires.fit.degree)

pub loop-i-preserved : goal.loop-i-preserved
loop-i-preserved c =
    let f = c.requires.fit in
    let l = c.loop-i in
    let e = c.low_shift-s.ensures.holds (fit_ready f l.i l.invariant.1.divided.lower) in
    (simp length-set (search rules), rw (add-one, e) (quotient_next f l.i (omega arith) l.quotient l.invariant.0 l.invariant.1))
