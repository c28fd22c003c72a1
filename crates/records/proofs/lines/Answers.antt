use Rattle.std.proofs.Common.{◌≡◌, ◌+◌, ◌*◌, ◌<◌, ◌-◌, ◌/◌, length, sym, eqb-true, arith}
use Rattle.std.proofs.lemmas.Bool.{eqb-false}
use Rattle.records.proofs.Printing.{room_of, record_at, done_more, done_all, done_rest}
use Rattle.records.proofs.lines.Goals as goal

pub loop-record-preserved : goal.loop-record-preserved
loop-record-preserved c =
    let r = c.args.records.now in
    let l = c.loop-record in
    let i = l.record-index in
    let k : i < length r / 16 = omega (arith, c.loop-record-test.true, c.as_chunks.ensures.front_len) in
    let next : (i + 1) * 16 ≡ i * 16 + 16 = omega arith in
    rw next
    (done_more (room_of r c.args.out.now c.if-out-records.false) l.invariant (omega arith)
    (rw (c.as_chunks.ensures.front, record_at (length r / 16) i r k) at c.put_line-at.ensures))

pub returns-then-is_empty : goal.returns-then-is_empty
returns-then-is_empty c =
    let none = eqb-true _ 0 (sym c.if-is_empty.ensures) in
    done_all (room_of c.args.records.now c.args.out.now c.if-out-records.false) c.loop-record.invariant
    (omega (arith, none, c.as_chunks.ensures.front_len, c.as_chunks.ensures.back_len))

pub returns : goal.returns
returns c =
    let r = c.args.records.now in
    let i = c.loop-record.record-index * 16 in
    let some = eqb-false _ 0 (sym c.if-is_empty.ensures) in
    let left : length c.as_chunks.result.1.now ≡ length r - i = omega (arith, c.as_chunks.ensures.front_len, c.as_chunks.ensures.back_len) in
    done_rest (room_of r c.args.out.now c.if-out-records.false) c.loop-record.invariant (omega (arith, left, some)) (omega (arith, left, c.as_chunks.ensures.back_len))
    (rw left at c.put_short.ensures)
