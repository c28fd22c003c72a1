-- p is what the stages passed hold.
use Rattle.reader.proofs.Filling.{Back}
use Rattle.reader.proofs.held_in.Given as goal

abbrev pub invariant-loop-cell : goal.invariant-loop-cell
invariant-loop-cell l = Back l.fn.stages l.cell-iterator.iter.rest.now l.p
