use borrow.Author.Count.{below_more}
use Rattle.poly.proofs.Division.{remainder_unique}
use Rattle.numbers.proofs.Fitting.{shift_next}
use Rattle.numbers.proofs.first_shift.Goals as goal

pub loop-i-preserved : goal.loop-i-preserved
loop-i-preserved c =
    let l = c.loop-i in
    let k = c.args.code.given in (
      shift_next c.args.e l.i k.degree k.few l.invariant.0 c.low_shift-p.ensures,
      below_more _ _ l.invariant.1 (λ v. c.if-p-s.false (remainder_unique l.invariant.0 v)),
    )
