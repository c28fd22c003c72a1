use mathlib.Core.Path.{◌≡◌, refl, sym, ◌∙◌}
use native.Mathlib.Omega.{arith}
use borrow.Author.Rules.{rules}
use lib.ListN.{length, length-set}
use lib.Seq.{take_all}
use Rattle.reader.proofs.Filling.{copy_more}
use Rattle.reader.proofs.copy_first.Goals as goal

pub loop-i-init : goal.loop-i-init
loop-i-init c = (search rules, refl)

pub loop-i-preserved : goal.loop-i-preserved
loop-i-preserved c =
    let l = c.loop-i in
    (simp length-set (search rules), copy_more l.message _ l.i (omega arith) (search rules) l.invariant.1)

pub returns : goal.returns
returns c =
    let l = c.loop-i in
    let end : l.i ≡ length c.args.message.now = omega (arith, l.invariant.0) in
    sym (take_all l.i l.message (omega arith)) ∙ l.invariant.1 ∙ rw end
