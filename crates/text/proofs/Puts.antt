-- Text put into a slice: two puts in a row are one of both texts, and two results are equal.
-- Assumes nothing.
use mathlib.Core.Path.{◌≡◌, refl, sym, ap, ◌∙◌}
use mathlib.Core.List.{List, ◌++◌, append_assoc}
use mathlib.Core.Logic.{⊎_elim}
use Prim.Native.Nat.{ℕ, ◌+◌, ◌<◌, ◌≤◌}
use native.Mathlib.Nat.{add_assoc}
use native.Mathlib.Omega.{arith}
use lib.ListN.{length, take, drop, length-append, length-drop}
use lib.Seq.{length-take-le, take-append-le, take-take, take_at, drop_at, drop-drop}
use Rattle.text.specs.Text.{written, Puts, decimal}
use Rattle.text.proofs.Order.{le_or_lt}

-- a slice with a text in it, for which there is room
module _ (text out : List ℕ) (at : ℕ) (room : at + length text ≤ length out) where
  front : length (take at out ++ text) ≡ at + length text
  front = rw (length-append, length-take-le at out (omega arith))

  parted : written text out at ≡ (take at out ++ text) ++ drop (at + length text) out
  parted = sym (append_assoc (take at out) text (drop (at + length text) out))

  pub written_length : length (written text out at) ≡ length out
  written_length = rw (parted, length-append, front, length-drop) (omega arith)

  written_take : take (at + length text) (written text out at) ≡ take at out ++ text
  written_take = rw (parted, take_at _ _ _ front)

  written_drop : drop (at + length text) (written text out at) ≡ drop (at + length text) out
  written_drop = rw (parted, drop_at _ _ _ front)

  -- from the place on stand the text and what stood behind it
  pub written_rest : drop at (written text out at) ≡ text ++ drop (at + length text) out
  written_rest = drop_at (take at out) (text ++ drop (at + length text) out) at (length-take-le at out (omega arith))

  pub written_before : (k : ℕ) → k ≤ at → take k (written text out at) ≡ take k out
  written_before k h =
      let l : k ≤ length (take at out) = rw (length-take-le at out (omega arith)) h in
      rw (take-append-le k (take at out) (text ++ drop (at + length text) out) l, take-take k at out h)

-- a text behind another
written_append : (s t out : List ℕ) (at : ℕ) → at + length (s ++ t) ≤ length out
    → written t (written s out at) (at + length s) ≡ written (s ++ t) out at
written_append s t out at room =
    let first : at + length s ≤ length out = omega (arith, length-append s t) in
    let after : drop (at + length s + length t) (written s out at) ≡ drop (at + length (s ++ t)) out = sym (drop-drop (length t) (at + length s) (written s out at)) ∙ rw (written_drop s out at first, drop-drop, length-append, add_assoc) in
    rw (written_take s out at first, after, append_assoc (take at out), append_assoc s)

-- a put of a text that fits, and of one that does not
module _ {text out : List ℕ} {at : ℕ} where
  pub puts_done : {out' : List ℕ} {end : ℕ} → at + length text ≤ length out → end ≡ at + length text → out' ≡ written text out at
      → Puts text out at out' end
  puts_done room e w = record { fits = λ _. (e, w); full = λ l. let b : ⊥ = omega arith in absurd b }

  pub puts_full : length out < at + length text → Puts text out at out at
  puts_full l = record { fits = λ room. let b : ⊥ = omega arith in absurd b; full = λ _. (refl, refl) }

module _ {text out out' : List ℕ} {at end : ℕ} (p : Puts text out at out' end) where
  either : {A : Type 0} → (at + length text ≤ length out → end ≡ at + length text → out' ≡ written text out at → A)
      → (length out < at + length text → end ≡ at → out' ≡ out → A) → A
  either done full =
      ⊎_elim (λ room. done room (p.fits room).0 (p.fits room).1)
      (λ l. full l (p.full l).0 (p.full l).1)
      (le_or_lt (at + length text) (length out))

  -- the slice stays as long as it was
  pub puts_length : length out' ≡ length out
  puts_length = either (λ room e w. rw (w, written_length text out at room)) (λ l e w. ap length w)

  -- the place does not go beyond the slice
  pub puts_within : at ≤ length out → end ≤ length out
  puts_within h = either (λ room e w. omega arith) (λ l e w. omega arith)

module _ {s t out out' out'' : List ℕ} {at mid end : ℕ} where
  -- a put and what follows it are a put of both texts, if both fit; what follows need only be a put if it fits, so that a chain asks for room once:
  -- `puts_then a (puts_then b (puts_append c d)) room`
  pub puts_then : Puts s out at out' mid → (mid + length t ≤ length out' → Puts t out' mid out'' end) → at + length (s ++ t) ≤ length out
      → Puts (s ++ t) out at out'' end
  puts_then p q room =
      let both = length-append s t in
      let first = p.fits (omega arith) in
      let rest : mid + length t ≤ length out' = omega (arith, puts_length p) in
      let second = (q rest).fits rest in
      puts_done room (omega arith) (rw (second.1, first.1, first.0, written_append s t out at room))

  -- two puts in a row
  pub puts_append : Puts s out at out' mid → Puts t out' mid out'' end → at + length (s ++ t) ≤ length out → Puts (s ++ t) out at out'' end
  puts_append p q = puts_then p (λ _. q)

-- two results of one put are equal: what `put_bytes` promises settles them
pub put_bytes_settled : {text out a b : List ℕ} {at i j : ℕ} → Puts text out at a i → Puts text out at b j → (i ≡ j) × (a ≡ b)
put_bytes_settled p q =
    either p (λ room e w. (e ∙ sym (q.fits room).0, w ∙ sym (q.fits room).1))
    (λ l e w. (e ∙ sym (q.full l).0, w ∙ sym (q.full l).1))

-- and so does what `put_number` promises
pub put_number_settled : (value : ℕ) {out a b : List ℕ} {at i j : ℕ} → Puts (decimal value) out at a i → Puts (decimal value) out at b j
    → (i ≡ j) × (a ≡ b)
put_number_settled value = put_bytes_settled
