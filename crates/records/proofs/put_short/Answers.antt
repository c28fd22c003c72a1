-- The word and the space, the count and the line feed, one behind the other.
use mathlib.Core.Path.{◌∙◌}
use native.Mathlib.Omega.{arith}
use Rattle.text.proofs.Puts.{puts_length, puts_then, puts_append}
use Rattle.records.proofs.Wording.{short_short}
use Rattle.records.proofs.put_short.Goals as goal

pub shape_of-out : goal.shape_of-out
shape_of-out c =
    let last = c.before.before in
    let number = last.before.before.before.before.before in
    let first = number.before.before.before.before in
    puts_length last.put_bytes.ensures ∙ puts_length number.put_number-b.ensures ∙ puts_length first.put_bytes-a.ensures

pub returns : goal.returns
returns c =
    let last = c.before.before in
    let number = last.before.before.before.before.before in
    let first = number.before.before.before.before in
    let s = first.before.before.before.before in
    let short = short_short s.args.count s.ranges.count.fits in
    record {
      short = short;
      puts = puts_then first.put_bytes-a.ensures (puts_append number.put_number-b.ensures last.put_bytes.ensures) (omega arith);
    }
