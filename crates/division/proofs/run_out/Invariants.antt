-- After i cells the first i cells of the quotient are those cells' quotient, and the register holds their remainder.
use mathlib.Core.Path.{◌≡◌}
use lib.ListN.{length, take}
use Rattle.division.specs.Division.{Quotient}
use Rattle.division.proofs.run_out.Given as goal

abbrev pub invariant-loop-i : goal.invariant-loop-i
invariant-loop-i l =
    (length l.quotient ≡ length l.dividend) × Quotient (take l.i l.dividend) l.g (take l.i l.quotient) l.s
