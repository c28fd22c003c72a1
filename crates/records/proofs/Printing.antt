-- A block of records: line after line, and what is left over.
-- Assumes nothing.
use mathlib.Core.Path.{◌≡◌, refl, sym, ap, subst, ◌∙◌}
use mathlib.Core.List.{List, [], ◌++◌, append_assoc, append-nil}
use mathlib.Core.Logic.{◌⊎◌, inl, inr}
use Prim.Native.Nat.{ℕ, zero, suc, ◌+◌, ◌-◌, ◌*◌, ◌/◌, ◌%◌, ◌≤◌, ◌<◌}
use native.Mathlib.Omega.{arith}
use native.Mathlib.Nat.{not-suc-le-zero}
use Rattle.std.specs.Simd.{first_chunks}
use lib.ListN.{length, get_or, take, drop, length-append, length-drop, take-append-drop, drop_of_length-le}
use lib.Seq.{length-take-le, drop-drop}
use Rattle.poly.proofs.Coefficient.{lt_or_le}
use Rattle.text.specs.Text.{Puts}
use Rattle.text.proofs.Puts.{puts_append, puts_length, puts_within}
use Rattle.verdict.proofs.Verdict.{where_holds}
use Rattle.records.specs.Records.{record_of, line_of, short_of, Prints, end, rest, line, Room, Printed}
use Rattle.records.specs.Steps.{PutsLine, Line}

-- the lines of the first i bytes stand at the front, up to a place
pub record Done (records start out : List ℕ) (place i : ℕ) : Type 0 where
  pub text : List ℕ
  pub prints : (more : List ℕ) → Prints (drop i records) more → Prints records (text ++ more)
  pub puts : Puts text start 0 out place
  pub long : place ≡ length text
  pub whole : i % 16 ≡ 0
  pub within : i ≤ length records
  pub room : place ≤ i * 4

-- the records one after the other, as they are cut
pub record_at : (k i : ℕ) (records : List ℕ) → i < k → get_or (first_chunks 16 k records) i [] ≡ take 16 (drop (i * 16) records)
record_at zero i records l = absurd (not-suc-le-zero l)
record_at (suc k) zero records l = refl
record_at (suc k) (suc i) records l =
    let further : (suc i) * 16 ≡ 16 + i * 16 = omega arith in
    rw (further, ← drop-drop (i * 16) 16 records) (record_at k i (drop 16 records) (omega arith))

-- whether there is room, as it is tested
module _ (records start : List ℕ) where
  pub room_of : length records / 16 < length start / 64 → Room records start
  room_of l = omega arith

module _ {records start out : List ℕ} {place i : ℕ} (h : Room records start) (d : Done records start out place i) where
  -- the slice stays as long as it was
  pub done_length : length out ≡ length start
  done_length = puts_length d.puts

  -- a line more has room
  pub done_room : place + 64 ≤ length out
  done_room = omega (arith, done_length, d.whole, d.within, d.room)

  -- the next sixteen bytes
  pub done_bytes : i + 16 ≤ length records → length (take 16 (drop i records)) ≡ 16
  done_bytes l = length-take-le 16 (drop i records) (rw length-drop (omega arith))

  -- one record more
  pub done_more : {out' : List ℕ} {place' : ℕ} → i + 16 ≤ length records → Line (take 16 (drop i records)) out place out' place'
      → Done records start out' place' (i + 16)
  done_more {place' = place'} l m =
      let bytes = take 16 (drop i records) in
      let text = line_of (record_of bytes) m.number m.count m.value in
      let split : drop i records ≡ bytes ++ drop (i + 16) records =
      sym (take-append-drop 16 (drop i records)) ∙ ap (λ (x : List ℕ). bytes ++ x) (drop-drop 16 i records) in
      let fits : place + length text ≤ length out = omega (arith, done_room, m.line.short) in
      let there : place' ≡ place + length text = (m.line.puts.fits fits).0 in
      let both = length-append d.text text in
      record {
        text = d.text ++ text;
        prints = λ more p. rw append_assoc
            (d.prints (text ++ more)
            (subst (λ (x : List ℕ). Prints x (text ++ more)) (sym split)
            (line bytes (drop (i + 16) records) more m.number m.count m.value (done_bytes l) m.gives p)));
        puts = puts_append d.puts m.line.puts (omega (arith, done_length, d.long));
        long = omega (arith, d.long);
        whole = omega (arith, d.whole);
        within = l;
        room = omega (arith, m.line.short, d.room);
      }

  -- nothing left over
  pub done_all : length records ≤ i → Printed records start out place
  done_all l = where_holds h (d.text, rw append-nil at (d.prints [] (rw (drop_of_length-le records l) end)), omega (arith, done_room, done_length, d.long), d.puts)

  -- 1 to 15 bytes left over
  pub done_rest : {out' : List ℕ} {place' : ℕ} → i < length records → length records - i < 16 → PutsLine (short_of (length records - i)) out place out' place'
      → Printed records start out' place'
  done_rest l b m =
      let left : length (drop i records) ≡ length records - i = length-drop i records in
      let both = length-append d.text (short_of (length records - i)) in
      where_holds h (
        d.text ++ short_of (length records - i),
        d.prints (short_of (length records - i)) (rw left at (rest (drop i records) (rw left (omega arith)) (rw left b))),
        omega (arith, done_room, done_length, m.short, d.long),
        puts_append d.puts m.puts (omega (arith, done_room, done_length, m.short, d.long)),
      )

-- the place handed back is none beyond the slice
module _ (records start out : List ℕ) (place : ℕ) (p : Printed records start out place) where
  pub printed_within : place ≤ length out
  printed_within = go (lt_or_le (length start) (64 * (length records / 16 + 1)))
    where
      go : (length start < 64 * (length records / 16 + 1)) ⊎ (64 * (length records / 16 + 1) ≤ length start) → place ≤ length out
      go (inl l) = let f = p.fails (λ r. omega arith) in omega (arith, f.0)
      go (inr r) = let h = (p.holds r).3 in rw (puts_length h) (puts_within h (omega arith))
