use mathlib.Core.Path.{refl, ◌∙◌}
use native.Mathlib.Numerals.{add-one}
use native.Mathlib.Omega.{arith}
use lib.Seq.{take_all}
use Rattle.poly.specs.Cells.{poly}
use Rattle.poly.proofs.Cells.{poly-take-suc}
use Rattle.verdict.proofs.Verdict.{where_holds, where_fails}
use Rattle.cells.proofs.Lent.{first_bad_cells, first_bad_none, read_next}
use Rattle.cells.proofs.number_of.Goals as goal
use Rattle.cells.proofs.number_of.Goals.{then-word-gt63-via-then-word-gt63, then-word-gt63-via-else-word-gt63+then-first_bad-word}

pub returns-then-word-gt63 : goal.returns-then-word-gt63
returns-then-word-gt63 c =
    where_fails
    (λ h.
    elim c.then-word-gt63.branch [
      | then-word-gt63-via-then-word-gt63 w ↦ omega (arith, h.0)
      | then-word-gt63-via-else-word-gt63+then-first_bad-word w ↦ first_bad_none w.first_bad.ensures w.if-first_bad-word.true h.1
    ])
    refl

pub loop-c-init : goal.loop-c-init
unfolding poly
loop-c-init c = refl

pub overflow_mul-p : goal.overflow_mul-p
overflow_mul-p c = omega (arith, read_next c.first_bad.ensures c.if-first_bad-word.false (omega arith) (omega arith) c.loop-c.invariant)

pub overflow_add-p : goal.overflow_add-p
overflow_add-p c = omega (arith, read_next c.first_bad.ensures c.if-first_bad-word.false (omega arith) (omega arith) c.loop-c.invariant)

pub loop-c-preserved : goal.loop-c-preserved
loop-c-preserved c =
    let l = c.loop-c in
    rw (add-one l.c-index, poly-take-suc c.args.word.now l.c-index (omega arith), l.invariant, c.from.ensures)

pub returns : goal.returns
returns c =
    where_holds (omega arith, first_bad_cells c.first_bad.ensures c.if-first_bad-word.false) (c.loop-c.invariant ∙ rw (take_all c.loop-c.c-index c.args.word.now (omega arith)))
