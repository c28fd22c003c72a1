-- Four digits at a time, from the lowest.
use Rattle.tables.proofs.Reading.{Below}
use Rattle.tables.proofs.Division.divide.Given as goal

abbrev pub invariant-loop-i : goal.invariant-loop-i
invariant-loop-i l = Below l.plate.f l.word l.i l.e
