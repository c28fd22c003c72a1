-- After i turns the reader is reached by i clocks.
use Rattle.reader.specs.Demand.{Reached}
use Rattle.reader.proofs.through.Given as goal

abbrev pub invariant-loop-i : goal.invariant-loop-i
invariant-loop-i l = Reached l.initial.reader.n l.initial.reader.g l.initial.reader.rule l.word l.i l.reader
