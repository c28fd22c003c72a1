use mathlib.Core.Path.{refl, ◌∙◌}
use Rattle.poly.specs.Register.{shifted}
use Rattle.reader.proofs.Filling.{shift_more, all_written}
use native.Mathlib.Omega.{arith}
use Rattle.reader.proofs.shift.Goals as goal

pub loop-stage-preserved : goal.loop-stage-preserved
loop-stage-preserved c =
    let l = c.loop-stage in
    shift_more l.stage-items l.stage-index (omega arith) l.rest _ l.below c.fed.ensures ∙ l.invariant

pub returns : goal.returns
unfolding shifted
returns c = let l = c.loop-stage in all_written (shifted l.rest _ l.below) l.stage-items l.stage-index refl (omega arith) l.invariant
