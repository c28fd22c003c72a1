-- The stages passed and the sum of the others make up the whole sum.
use mathlib.Core.Path.{◌≡◌}
use mathlib.Core.List.{◌++◌}
use lib.ListN.{take, drop}
use Rattle.poly.specs.Register.{added}
use Rattle.reader.proofs.add.Given as goal

abbrev pub invariant-loop-stage : goal.invariant-loop-stage
invariant-loop-stage l = take l.stage-index l.stage-items ++ added l.rest (drop l.stage-index l.stage-items) ≡ added l.p l.initial.stage-items
