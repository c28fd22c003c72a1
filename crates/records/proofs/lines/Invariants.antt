-- Line after line.
use Rattle.std.proofs.Common.{◌*◌}
use Rattle.records.proofs.Printing.{Done}
use Rattle.records.proofs.lines.Given as goal

abbrev pub invariant-loop-record : goal.invariant-loop-record
invariant-loop-record l = Done l.records l.initial.out l.out l.at (l.record-index * 16)
