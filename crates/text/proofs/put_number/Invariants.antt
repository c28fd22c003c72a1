-- The digits are counted, the room for them is tested, and from then on what is left to write and what is written are the number's digits (`Filling`).
use Rattle.text.proofs.Filling.{Filling}
use Rattle.text.proofs.put_number.Given as goal

abbrev pub invariant-loop-v : goal.invariant-loop-v
invariant-loop-v l = Filling l.value l.initial.out l.at l.end l.out l.i l.v

abbrev pub decreases-loop-v : goal.decreases-loop-v
decreases-loop-v l = l.v

abbrev pub decreases-loop-v-2 : goal.decreases-loop-v-2
decreases-loop-v-2 l = l.v

-- what is left goes into the slice as the first loop leaves it
abbrev pub invariant-loop-v-2 : goal.invariant-loop-v-2
invariant-loop-v-2 l = Filling l.initial.v l.initial.out l.at l.initial.i l.out l.i l.v
