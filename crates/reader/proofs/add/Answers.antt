use mathlib.Core.Path.{refl, ◌∙◌}
use Rattle.poly.specs.Register.{added}
use Rattle.reader.proofs.Filling.{sum_more, all_written}
use native.Mathlib.Omega.{arith}
use Rattle.reader.proofs.add.Goals as goal

pub loop-stage-preserved : goal.loop-stage-preserved
loop-stage-preserved c =
    let l = c.loop-stage in
    sum_more l.stage-items l.stage-index (omega arith) l.rest c.fed.ensures ∙ l.invariant

pub returns : goal.returns
unfolding added
returns c = let l = c.loop-stage in all_written (added l.rest) l.stage-items l.stage-index refl (omega arith) l.invariant
