-- The stages passed and the shift of the others make up the whole shift.
use mathlib.Core.Path.{◌≡◌}
use mathlib.Core.List.{◌++◌}
use lib.ListN.{take, drop}
use Rattle.poly.specs.Register.{shifted}
use Rattle.reader.proofs.shift.Given as goal

abbrev pub invariant-loop-stage : goal.invariant-loop-stage
invariant-loop-stage l =
    take l.stage-index l.stage-items ++ shifted l.rest l.f l.below (drop l.stage-index l.stage-items) ≡ shifted l.g l.f l.input l.initial.stage-items
