-- The starred cases hold: one test for each kind of case, computed once over the whole table.
-- Assumes nothing.
use mathlib.Core.Path.{◌≡◌, refl, sym, ◌∙◌}
use mathlib.Core.Bool.{Bool, true, false, not, ◌&&◌, ◌||◌}
use mathlib.Core.List.{List, [], ◌∷◌}
use Prim.Native.Nat.{ℕ, zero, suc, ◌-◌, ◌*◌, ◌^◌, ◌<◌}
use native.Mathlib.Nat.{mod-eq_of_lt, le_refl, le_step}
use native.Mathlib.Omega.{arith}
use lib.Count.{ones}
use lib.Dec.{T, T_not, eqb, ltb, eqb→eq, ltb→lt, eqb_refl}
use lib.ListN.{get_or}
use Rattle.poly.specs.Poly.{sum, times, Divided, Remainder}
use Rattle.poly.specs.Cells.{cells}
use Rattle.poly.proofs.Computed.{degree, divide}
use Rattle.poly.proofs.Degree.{degree_of_lem}
use Rattle.poly.proofs.Division.{divide_divided, divide_remainder, remainder_unique}
use Rattle.poly.proofs.Cells.{length-cells, cells-cells, poly-cells}
use Rattle.verdict.proofs.Verdict.{settles_yes}
use Rattle.verdict.proofs.Bool.{is_true, and_left, and_right, each_below, each_at}
use Rattle.cells.specs.Lent.{cells_check}
use Rattle.division.specs.Division.{dividend_check, divisor_check, quotient_check}
use Rattle.codes.specs.Mending.{Pattern, Mends}
use Rattle.codes.specs.Coding.{Systematic, Product, First}
use Rattle.codes.specs.Calls.{MessageFits, Encodes, Leaves, Decodes}
use Rattle.codes.specs.Row.{pattern_at, pattern_count}
use Rattle.codes.proofs.Row.{row_pattern, pattern_row}
use Rattle.codes.proofs.Checking.{Code, Allowed, allowed_of, generator_pos}
use Rattle.codes.proofs.Calls.{message_fits, encodes_done, leaves_done}
use Rattle.codes.proofs.Coding.{systematic_word, systematic_first}
use Rattle.codes.proofs.Finding.{code_found, none_found, done_decodes, refused_decodes}
use Rattle.families.specs.Families.{pairs, length_of, generator_of, pairs_of, Shown}
use Rattle.families.proofs.Families.{family_shown}
use Rattle.cases.specs.Cases.{Case, divides, systematic, product, remains, mends, refuses, Holds, Every, starred}

-- ---- tests

-- at some place below m
abbrev some : ℕ → (ℕ → Bool) → Bool
some zero t = false
some (suc m) t = t m || some m t

-- x^r times a message, and the word that goes with it
abbrev shifted : ℕ → ℕ → ℕ
shifted g d = d * 2 ^ degree g

abbrev word_of : ℕ → ℕ → ℕ
word_of g d = sum (shifted g d) (divide (shifted g d) g).remainder

-- a family of the table, a message of k cells, a rule that the family carries
abbrev family : ℕ → Bool
family f = ltb 0 f && ltb f 13

abbrev fits : ℕ → ℕ → Bool
fits f d = ltb d (2 ^ (length_of f - degree (generator_of f)))

abbrev carried : ℕ → ℕ → Bool
carried f zero = true
carried f (suc zero) = true
carried f (suc (suc zero)) = pairs_of f
carried f (suc (suc (suc rule))) = false

unfoldable right : Case → Bool
unfolding degree divide times pattern_at pattern_count ones
right (divides n p g q s) =
    (ltb n 4097 && (ltb 0 g && (ltb 0 (degree g) && ltb (degree g) 33)))
    && (ltb p (2 ^ n) && (ltb q (2 ^ n) && (eqb (divide p g).quotient q && eqb (divide p g).remainder s)))
right (systematic f d w) = family f && (fits f d && eqb w (word_of (generator_of f) d))
right (product f d w) = family f && (fits f d && eqb w (times d (generator_of f)))
right (remains f w s) = family f && (ltb w (2 ^ length_of f) && eqb (divide w (generator_of f)).remainder s)
right (mends f rule w d count) =
    family f && (carried f rule && (ltb w (2 ^ length_of f) && (fits f d
    && (some (pattern_count (length_of f) rule) (λ i. eqb (pattern_at (length_of f) i) (sum w (word_of (generator_of f) d)))
    && eqb count (ones (sum w (word_of (generator_of f) d)))))))
right (refuses f rule w) =
    family f && (carried f rule && (ltb w (2 ^ length_of f)
    && each_below (pattern_count (length_of f) rule) (λ i. not (eqb (divide (pattern_at (length_of f) i) (generator_of f)).remainder (divide w (generator_of f)).remainder))))

abbrev every : List Case → Bool
every [] = true
every (c ∷ cs) = right c && every cs

all_right : T (every starred)
unfolding right
all_right = tt

-- ---- what they say

-- a test at some place
some_at : (m : ℕ) (t : ℕ → Bool) → T (some m t) → (i : ℕ) × (i < m) × T (t i)
some_at zero t s = absurd s
some_at (suc m) t s = go (some_at m t) (t m) refl s
  where
    go : (T (some m t) → (i : ℕ) × (i < m) × T (t i)) → (b : Bool) → t m ≡ b → T (b || some m t) → (i : ℕ) × (i < suc m) × T (t i)
    go less true e u = (m, le_refl (suc m), rw e tt)
    go less false e u = let r = less u in (r.0, le_step r.1, r.2)

module _ (f : ℕ) (t : T (family f)) where
  shown : Shown (f - 1)
  shown = family_shown (f - 1) (omega (arith, ltb→lt 0 f (and_left (ltb 0 f) (ltb f 13) t), ltb→lt f 13 (and_right (ltb 0 f) (ltb f 13) t)))

  here : f ≡ suc (f - 1)
  here = omega (arith, ltb→lt 0 f (and_left (ltb 0 f) (ltb f 13) t))

  -- a rule that the family carries
  allowed : (rule : ℕ) → T (carried f rule) → Allowed (length_of f) (generator_of f) rule
  allowed zero c = rw here (allowed_of shown.none)
  allowed (suc zero) c = rw here (allowed_of shown.singles)
  allowed (suc (suc zero)) c =
      rw here
      (record { code = (allowed_of shown.none).code; known = le_refl 2; carried = shown.pairs.yes (is_true (get_or pairs (f - 1) false) (rw here at c)) })
  allowed (suc (suc (suc rule))) c = absurd c

  code : Code (length_of f) (generator_of f)
  code = (allowed 0 tt).code

  pos : 0 < generator_of f
  pos = generator_pos code.generator

  -- a message of k cells, and its word
  message : (d : ℕ) → T (fits f d) → MessageFits (length_of f) (generator_of f) d
  message d l = message_fits code (degree_of_lem (generator_of f) pos) (ltb→lt d (2 ^ (length_of f - degree (generator_of f))) l)

  word : (d : ℕ) → Systematic (generator_of f) d (word_of (generator_of f) d)
  word d = record {
    r = degree (generator_of f);
    degree = degree_of_lem (generator_of f) pos;
    rest = (divide (shifted (generator_of f) d) (generator_of f)).remainder;
    remainder = divide_remainder (shifted (generator_of f) d) pos;
    word = refl;
  }

-- ---- each kind of case

quotient : (n p g q s : ℕ) → T (right (divides n p g q s)) → Holds (divides n p g q s)
unfolding right
quotient n p g q s t lent size =
    let t₁ = and_right (ltb n 4097 && (ltb 0 g && (ltb 0 (degree g) && ltb (degree g) 33))) _ t in
    let b = and_left (ltb n 4097 && (ltb 0 g && (ltb 0 (degree g) && ltb (degree g) 33))) _ t in
    let b₁ = and_right (ltb n 4097) _ b in
    let b₂ = and_right (ltb 0 g) _ b₁ in
    let few = ltb→lt n 4097 (and_left (ltb n 4097) _ b) in
    let h = ltb→lt 0 g (and_left (ltb 0 g) _ b₁) in
    let low = ltb→lt 0 (degree g) (and_left (ltb 0 (degree g)) _ b₂) in
    let high = ltb→lt (degree g) 33 (and_right (ltb 0 (degree g)) _ b₂) in
    let lp = ltb→lt p (2 ^ n) (and_left (ltb p (2 ^ n)) _ t₁) in
    let t₂ = and_right (ltb p (2 ^ n)) _ t₁ in
    let lq = ltb→lt q (2 ^ n) (and_left (ltb q (2 ^ n)) _ t₂) in
    let t₃ = and_right (ltb q (2 ^ n)) _ t₂ in
    let eq = eqb→eq (divide p g).quotient q (and_left (eqb (divide p g).quotient q) _ t₃) in
    let es = eqb→eq (divide p g).remainder s (and_right (eqb (divide p g).quotient q) _ t₃) in
    let v : Divided p g q s = rw (eq, es) at (divide_divided p h) in
    settles_yes (dividend_check (cells n p) ∷ divisor_check g ∷ quotient_check (cells n p) lent ∷ cells_check (cells n p) ∷ []) tt (
      omega (arith, length-cells n p, few),
      (record { r = degree g; degree = degree_of_lem g h; least = low; most = omega (arith, high) }, (size ∙ sym (length-cells n p), (cells-cells n p, tt))),
    )
    (record {
      long = length-cells n q ∙ sym (length-cells n p);
      cells = cells-cells n q;
      divided = rw (poly-cells n p, poly-cells n q, mod-eq_of_lt lp, mod-eq_of_lt lq) v;
    })

-- a message that fits, and a word of n cells, on a family's code
module _ (f : ℕ) (t : T (family f)) where
  encoded : (Word : ℕ → ℕ → ℕ → Type 0) {d w : ℕ} → T (fits f d) → Word (generator_of f) d w → Encodes Word (length_of f) (generator_of f) d 0 w
  encoded Word {d} l = encodes_done (code f t) Word (message f t d l)

  left : (w s : ℕ) → T (ltb w (2 ^ length_of f)) → (divide w (generator_of f)).remainder ≡ s → Leaves (length_of f) (generator_of f) w 0 s
  left w s l e = leaves_done (code f t) (ltb→lt w (2 ^ length_of f) l) (rw e at (divide_remainder w (pos f t)))

  module _ (rule : ℕ) (c : T (carried f rule)) (w : ℕ) (l : T (ltb w (2 ^ length_of f))) where
    a : Allowed (length_of f) (generator_of f) rule
    a = allowed f t rule c

    -- the word of a message differs from w in a pattern of the row
    mended : (d count : ℕ) → T (fits f d)
        → T (some (pattern_count (length_of f) rule) (λ i. eqb (pattern_at (length_of f) i) (sum w (word_of (generator_of f) d))))
        → count ≡ ones (sum w (word_of (generator_of f) d)) → Decodes First (length_of f) (generator_of f) rule w 0 d count
    mended d count k s e =
        let x = some_at (pattern_count (length_of f) rule) (λ i. eqb (pattern_at (length_of f) i) (sum w (word_of (generator_of f) d))) s in
        let h = word f t d in
        let m : Mends (Pattern (length_of f) rule) (length_of f) (generator_of f) w (word_of (generator_of f) d) = record {
          code = systematic_word h (message f t d k);
          pattern =
              rw (← (eqb→eq (pattern_at (length_of f) x.0) (sum w (word_of (generator_of f) d)) x.2))
              (row_pattern (length_of f) rule a.code.least x.0 x.1);
        } in
        done_decodes (code_found a (ltb→lt w (2 ^ length_of f) l) m e) First refl (systematic_first h)

    -- no pattern of the row leaves what w leaves
    refused : T (each_below (pattern_count (length_of f) rule)
        (λ i. not (eqb (divide (pattern_at (length_of f) i) (generator_of f)).remainder (divide w (generator_of f)).remainder)))
        → Decodes First (length_of f) (generator_of f) rule w 8 0 0
    refused s =
        refused_decodes (none_found a (ltb→lt w (2 ^ length_of f) l) (divide_remainder w (pos f t)) unread) First (λ e. omega (arith, e))
      where
        unread : (e : ℕ) → Pattern (length_of f) rule e → Remainder e (generator_of f) (divide w (generator_of f)).remainder → ⊥
        unread e q v =
            let p = pattern_row (length_of f) rule a.code.least q in
            let same = remainder_unique {s' = (divide w (generator_of f)).remainder} (divide_remainder (pattern_at (length_of f) p.0) (pos f t)) (rw p.2 v) in
            T_not (eqb (divide (pattern_at (length_of f) p.0) (generator_of f)).remainder (divide w (generator_of f)).remainder)
            (each_at (λ i. not (eqb (divide (pattern_at (length_of f) i) (generator_of f)).remainder (divide w (generator_of f)).remainder))
            (pattern_count (length_of f) rule) s p.0 p.1)
            (rw same (eqb_refl (divide w (generator_of f)).remainder))

-- ---- the table

right_holds : (c : Case) → T (right c) → Holds c
unfolding right
right_holds (divides n p g q s) t = quotient n p g q s t
right_holds (systematic f d w) t =
    let u = and_right (family f) _ t in
    encoded f (and_left (family f) _ t) Systematic (and_left (fits f d) _ u)
    (rw (eqb→eq w (word_of (generator_of f) d) (and_right (fits f d) _ u)) (word f (and_left (family f) _ t) d))
right_holds (product f d w) t =
    let u = and_right (family f) _ t in
    encoded f (and_left (family f) _ t) Product (and_left (fits f d) _ u) (eqb→eq w (times d (generator_of f)) (and_right (fits f d) _ u))
right_holds (remains f w s) t =
    let u = and_right (family f) _ t in
    left f (and_left (family f) _ t) w s (and_left (ltb w (2 ^ length_of f)) _ u)
    (eqb→eq (divide w (generator_of f)).remainder s (and_right (ltb w (2 ^ length_of f)) _ u))
right_holds (mends f rule w d count) t =
    let u = and_right (family f) _ t in
    let v = and_right (carried f rule) _ u in
    let x = and_right (ltb w (2 ^ length_of f)) _ v in
    let y = and_right (fits f d) _ x in
    let far = some (pattern_count (length_of f) rule) (λ i. eqb (pattern_at (length_of f) i) (sum w (word_of (generator_of f) d))) in
    mended f (and_left (family f) _ t) rule (and_left (carried f rule) _ u) w (and_left (ltb w (2 ^ length_of f)) _ v) d count (and_left (fits f d) _ x)
    (and_left far _ y) (eqb→eq count (ones (sum w (word_of (generator_of f) d))) (and_right far _ y))
right_holds (refuses f rule w) t =
    let u = and_right (family f) _ t in
    let v = and_right (carried f rule) _ u in
    refused f (and_left (family f) _ t) rule (and_left (carried f rule) _ u) w (and_left (ltb w (2 ^ length_of f)) _ v) (and_right (ltb w (2 ^ length_of f)) _ v)

every_holds : (cs : List Case) → T (every cs) → Every Holds cs
every_holds [] t = tt
every_holds (c ∷ cs) t = (right_holds c (and_left (right c) (every cs) t), every_holds cs (and_right (right c) (every cs) t))

-- the claim
pub worked : Every Holds starred
worked = every_holds starred all_right
