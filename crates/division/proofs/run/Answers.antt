use native.Mathlib.Numerals.{add-one}
use Rattle.poly.proofs.Cells.{poly-take-suc}
use Rattle.division.proofs.Growing.{empty_times, fit_ready}
use Rattle.division.proofs.run.Goals as goal

pub loop-c-init : goal.loop-c-init
loop-c-init g c = empty_times c.requires.degree (g.S.Side.factor c.args.r)

pub shift-s-requires : goal.shift-s-requires
shift-s-requires g c = fit_ready c.requires c.loop-c.c-index c.loop-c.invariant.divided.lower

pub loop-c-preserved : goal.loop-c-preserved
loop-c-preserved g c =
    let l = c.loop-c in
    rw (add-one, poly-take-suc c.args.dividend.now l.c-index c.loop-c-test.true) (c.shift-s.ensures.keeps _ l.invariant)
