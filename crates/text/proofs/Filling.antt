-- The digits of a number are filled in from the last to the first: those that are left and what is written stay one text.
-- Assumes nothing.
use mathlib.Core.Path.{◌≡◌, refl, ◌∙◌}
use mathlib.Core.List.{List, ◌++◌, append_assoc}
use Prim.Native.Nat.{ℕ, ◌+◌, ◌-◌, ◌/◌, ◌%◌, ◌^◌, ◌<◌, ◌≤◌}
use native.Mathlib.Numerals.{add-one}
use native.Mathlib.Omega.{arith}
use lib.ListN.{length, take, drop, set}
use lib.Seq.{set_split}
use Rattle.text.specs.Text.{decimal, written, Puts}
use Rattle.text.specs.Lowest.{lowest}
use Rattle.text.proofs.Decimal.{decimal_one, decimal_split, lowest_length, decimal_longer, decimal_some}
use Rattle.text.proofs.Puts.{written_length, written_before, written_rest, puts_done}

-- `value` goes into the slice `start` from place `at` up to place `end`; the digits of v, before place i, are still to be written
pub record Filling (value : ℕ) (start : List ℕ) (at end : ℕ) (out : List ℕ) (i v : ℕ) : Type 0 where
  pub whole : end ≡ at + length (decimal value)
  pub room : end ≤ length start
  pub left : i ≡ at + length (decimal v)
  pub within : i ≤ end
  pub long : length out ≡ length start
  pub before : take at out ≡ take at start
  pub text : decimal value ++ drop end start ≡ decimal v ++ drop i out

pub filling_start : {value at end : ℕ} (start : List ℕ) → end ≡ at + length (decimal value) → end ≤ length start → Filling value start at end start end value
filling_start start e h = record { whole = e; room = h; left = e; within = omega arith; long = refl; before = refl; text = refl }

module _ {value at end i v : ℕ} {start out : List ℕ} (f : Filling value start at end out i v) where
  -- a digit is left
  pub filling_left : at < i
  filling_left = omega (arith, decimal_some v)

  -- the k lowest digits of more are written before what is written
  module _ (k : ℕ) (m : 10 ^ k ≤ v) where
    part_room : i - k + length (lowest k v) ≤ length out
    part_room = omega (arith, lowest_length k v, decimal_longer k v m)

    pub filling_more : Filling value start at end (written (lowest k v) out (i - k)) (i - k) (v / 10 ^ k)
    filling_more =
        let n = decimal_longer k v m in
        let e : i ≡ i - k + length (lowest k v) = omega (arith, lowest_length k v) in
        record {
          whole = f.whole;
          room = f.room;
          left = omega arith;
          within = omega arith;
          long = written_length (lowest k v) out (i - k) part_room ∙ f.long;
          before = written_before (lowest k v) out (i - k) part_room at (omega (arith, decimal_some (v / 10 ^ k))) ∙ f.before;
          text = f.text ∙ rw (decimal_split k v m, append_assoc (decimal (v / 10 ^ k)), written_rest (lowest k v) out (i - k) part_room, ← e);
        }

  -- one of them as a store
  pub filling_one : 10 ≤ v → Filling value start at end (set out (i - 1) (48 + v % 10)) (i - 1) (v / 10)
  unfolding lowest
  filling_one m = rw (set_split out (i - 1) (48 + v % 10) (omega (arith, filling_left)), ← add-one (i - 1)) (filling_more 1 m)

  -- a put of what is left completes the text
  pub filling_join : {out' : List ℕ} → Puts (decimal v) out at out' i → Puts (decimal value) start at out' end
  filling_join p =
      let put = p.fits (omega arith) in
      puts_done (rw (← f.whole) f.room) f.whole (rw (put.1, ← f.left, f.before, ← f.text, f.whole))

  -- so does the only digit left
  pub filling_done : v < 10 → Puts (decimal value) start at (set out at (48 + v)) end
  filling_done s =
      let one = decimal_one v s in
      let e : i ≡ at + 1 = f.left ∙ rw one in
      let h : at < length out = omega (arith, filling_left) in
      filling_join (rw one (puts_done (omega arith) e (rw (set_split out at (48 + v) h, add-one))))
