use mathlib.Core.Path.{sym}
use native.Mathlib.Nat.{sub_self, div-one}
use native.Mathlib.Omega.{arith}
use lib.Seq.{drop-length}
use Rattle.poly.specs.Cells.{cells}
use Rattle.cells.proofs.Lent.{written_more, left_more}
use Rattle.cells.proofs.write_number.Goals as goal

pub loop-i-init : goal.loop-i-init
unfolding cells
loop-i-init c = (rw (drop-length, sub_self), rw sub_self (sym (div-one _)))

pub loop-i-preserved : goal.loop-i-preserved
loop-i-preserved c =
    let l = c.loop-i in (
      written_more _ _ _ _ _ (omega arith) (omega arith) l.auto.word l.invariant.0 l.invariant.1,
      left_more _ _ _ _ _ (omega arith) (omega arith) l.auto.word l.invariant.0 l.invariant.1,
    )
