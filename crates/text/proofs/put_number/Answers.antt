use mathlib.Core.Path.{sym, ◌∙◌}
use Prim.Native.Nat.{◌+◌, ◌-◌, ◌≤◌, ◌<◌}
use lib.ListN.{length, length-set}
use borrow.Author.Tests.{leb-true, leb-false}
use native.Mathlib.Omega.{arith}
use Rattle.text.proofs.Decimal.{decimal_longer}
use Rattle.text.proofs.Puts.{puts_full}
use Rattle.text.proofs.Filling.{filling_start, filling_left, filling_more, filling_one, filling_join, filling_done}
use Rattle.text.proofs.put_number.Goals as goal
use Rattle.text.proofs.put_number.Goals.{Else-not-has_room}

-- the digits have room
room : (c : Else-not-has_room) → c.args.at + c.count_digits-digits.result ≤ length c.args.out.now
room c = leb-true _ _ (sym c.has_room.ensures ∙ c.if-not-has_room.false)

pub returns-then-not-has_room : goal.returns-then-not-has_room
returns-then-not-has_room c =
    let a = c.args in
    let l : length a.out.now < a.at + c.count_digits-digits.result = leb-false _ _ (sym c.has_room.ensures ∙ c.if-not-has_room.true) in
    puts_full (rw c.count_digits-digits.ensures at l)

pub overflow_add-end : goal.overflow_add-end
overflow_add-end c = omega (arith, room c)

pub loop-v-init : goal.loop-v-init
loop-v-init c = filling_start _ (rw c.count_digits-digits.ensures) (room c)

pub overflow_sub-i : goal.overflow_sub-i
overflow_sub-i c = let l = c.loop-v in omega (arith, decimal_longer 4 l.v c.loop-v-test.true, l.invariant.left)

pub put_four-requires : goal.put_four-requires
put_four-requires c =
    let l = c.loop-v in
    omega (arith, l.invariant.within, l.invariant.room, l.invariant.long, decimal_longer 4 l.v c.loop-v-test.true, l.invariant.left)

pub loop-v-preserved : goal.loop-v-preserved
loop-v-preserved c =
    rw c.put_four.ensures (filling_more c.loop-v.invariant 4 c.loop-v-test.true)

pub loop-v-2-init : goal.loop-v-2-init
loop-v-2-init c = let l = c.loop-v.invariant in filling_start c.loop-v.out l.left (omega arith)

pub overflow_sub-i-in-loop-v-2 : goal.overflow_sub-i-in-loop-v-2
overflow_sub-i-in-loop-v-2 c = omega (arith, filling_left c.loop-v-2.invariant)

pub bounds-out-i : goal.bounds-out-i
bounds-out-i c =
    let l = c.loop-v-2 in
    let h : l.i - 1 < length l.out = omega (arith, filling_left l.invariant) in
    h

pub loop-v-2-preserved : goal.loop-v-2-preserved
loop-v-2-preserved c = filling_one c.loop-v-2.invariant c.loop-v-2-test.true

pub bounds-out-at : goal.bounds-out-at
bounds-out-at c =
    let l = c.loop-v-2 in
    let h : c.args.at < length l.out = omega (arith, filling_left l.invariant) in
    h

pub shape_of-out : goal.shape_of-out
shape_of-out c = length-set c.loop-v-2.out _ _ ∙ c.loop-v-2.invariant.long ∙ c.loop-v.invariant.long

pub returns : goal.returns
returns c = filling_join c.loop-v.invariant (filling_done c.loop-v-2.invariant c.loop-v-2-test.false)
