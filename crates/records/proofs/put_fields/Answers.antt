-- Station, seven bytes, value and line feed, one behind the other.
use Rattle.std.proofs.Common.{◌≡◌, ◌+◌, ◌≤◌, ◌<◌, ◌^◌, length, refl, arith, rules}
use Rattle.text.proofs.Puts.{puts_then, puts_append}
use Rattle.verdict.specs.Refusal.{number}
use Rattle.records.specs.Records.{line_of}
use Rattle.records.specs.Steps.{count_of, value_of, fields}
use Rattle.records.proofs.Wording.{line_text, line_short}
use Rattle.records.proofs.put_fields.Goals as goal
use Rattle.records.proofs.put_fields.Goals.{in-Ok, in-Err}

pub returns : goal.returns
returns c =
    let a = c.args in
    let m = c.match-answer.number in
    let x = fields a.«record» in
    let same : (m.0 ≡ number a.answer) × (m.1 ≡ count_of a.answer) × (m.2 ≡ value_of a.answer) =
    elim c.match-answer.branch [
      | in-Ok w ↦ rw (w.number-is, w.in-Ok.is) (refl, refl, refl)
      | in-Err w ↦ rw (w.number-is, w.in-Err.is) (w.from.ensures, refl, refl)
    ] in
    let fits : m.2 < 2 ^ 64 = search rules in
    let text = line_text x m.0 m.1 m.2 (rw same.0 c.requires.0) (rw same.1 c.requires.1) in
    let short = line_short x m.0 m.1 m.2 (rw same.0 c.requires.0) (rw same.1 c.requires.1) (search rules) fits in
    let room : a.at + length (line_of x m.0 m.1 m.2) ≤ length a.out.now = omega arith in
    rw (← same.0, ← same.1, ← same.2) (
    record {
      short = short;
      puts = rw (text, ← c.shown.ensures)
          (puts_then (rw c.from-2.ensures at c.put_number-a.ensures) (puts_then c.put_bytes-b.ensures (puts_append c.put_number-c.ensures c.put_bytes.ensures))
          (rw (text, ← c.shown.ensures) at room));
    }
    )
