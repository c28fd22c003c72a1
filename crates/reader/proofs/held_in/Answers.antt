use Rattle.reader.proofs.Filling.{back_none, back_next, held_fits}
use lib.ListN.{length}
use borrow.Author.Rules.{rules}
use native.Mathlib.Omega.{arith}
use Rattle.reader.proofs.held_in.Goals as goal

pub loop-cell-init : goal.loop-cell-init
loop-cell-init c = rw (c.into_iter-cell-iterator.ensures.into_iter_gives, c.rev-cell-items.ensures.source, c.iter.ensures.rest) (back_none c.args.stages)

pub overflow_mul-p : goal.overflow_mul-p
overflow_mul-p c = omega (arith, c.loop-cell.invariant.1, held_fits c.args.stages (length c.loop-cell.cell-iterator.iter.rest.now) c.requires (search rules))

pub overflow_add-p : goal.overflow_add-p
overflow_add-p c = omega (arith, c.loop-cell.invariant.1, c.from.ensures, held_fits c.args.stages (length c.loop-cell.cell-iterator.iter.rest.now) c.requires (search rules))

pub loop-cell-preserved : goal.loop-cell-preserved
loop-cell-preserved c = rw c.from.ensures (back_next _ _ (rw c.in-Some.ensures.steps at c.loop-cell.invariant))

pub returns : goal.returns
returns c = rw c.in-None.ensures.steps.0 at c.loop-cell.invariant.1
