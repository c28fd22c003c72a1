use mathlib.Core.Path.{◌≡◌, ◌∙◌}
use native.Mathlib.Numerals.{add-one}
use native.Mathlib.Omega.{arith}
use borrow.Author.Rules.{rules}
use lib.ListN.{length, length-set}
use lib.Seq.{take-length}
use Rattle.words.proofs.Copying.{copy_suc}
use Rattle.words.proofs.copy_front.Goals as goal

pub loop-i-preserved : goal.loop-i-preserved
loop-i-preserved c =
    let l = c.loop-i in
    let a = c.args in
    (simp length-set (search rules), rw (l.invariant.1, add-one) (copy_suc a.from.now a.to.now l.i (omega arith) (omega arith)))

pub returns : goal.returns
returns c =
    let e : c.loop-i.i ≡ length c.args.from.now = omega arith in
    c.loop-i.invariant.1 ∙ rw (e, take-length)
