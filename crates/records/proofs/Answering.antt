-- What the jobs give for a family, whose checks pass once and for all.
-- Assumes nothing.
use mathlib.Core.Path.{◌≡◌, refl, ap, ◌∙◌}
use mathlib.Core.Bool.{Bool, true, false, cond}
use mathlib.Core.Logic.{inl, inr}
use Prim.Native.Nat.{ℕ, ◌+◌, ◌-◌, ◌*◌, ◌/◌, ◌^◌, ◌≤◌, ◌<◌}
use native.Mathlib.Nat.{zero-div, div-eq_of_lt, lt_of_lt_of_le}
use native.Mathlib.Omega.{arith}
use borrow.Author.Tests.{eqb-true, eqb-false}
use lib.Count.{ones}
use lib.Dec.{eqb, lit<}
use lib.ListN.{get_or}
use lib.Pow.{pow_pos, pow_mono, shl_lt}
use Rattle.poly.specs.Poly.{sum, times, Degree, Remainder}
use Rattle.poly.proofs.Degree.{high_zero, times_lt}
use Rattle.poly.proofs.Times.{times_comm}
use Rattle.poly.proofs.Division.{lower_zero, divided_lower, quotient_unique}
use Rattle.verdict.specs.Verdict.{Verdict, Tells}
use Rattle.verdict.proofs.Verdict.{verdict_on, tells_yes, tells_no}
use Rattle.codes.specs.Code.{code_checks}
use Rattle.codes.specs.Mending.{Pattern, Carries, carry_checks}
use Rattle.codes.specs.Coding.{Systematic, Product, First}
use Rattle.codes.specs.Finding.{FindsCode}
use Rattle.codes.proofs.Checking.{Code, Allowed, of_code, generator_pos}
use Rattle.codes.specs.Calls.{MessageFits}
use Rattle.codes.proofs.Calls.{code_shorter, message_fits, message_below, encodes_done, leaves_done}
use Rattle.codes.proofs.Coding.{quotient_product}
use Rattle.codes.proofs.Finding.{code_refused, pattern_found, none_found, found_divides, found_decodes}
use Rattle.families.specs.Families.{generators, pairs}
use Rattle.families.proofs.Families.{family_shown, family_code}
use Rattle.tables.specs.Tables.{Packed, Has, Family, highest}
use Rattle.tables.specs.declared.Plate.{Plate}
use Rattle.tables.proofs.Packing.{packed_lower}
use Rattle.tables.proofs.Plates.{plate_highest, plate_carries}
use Rattle.records.specs.Records.{Job, E, P, S, D, Q, RuleFits, WordFits, Calls}
use Rattle.records.specs.Steps.{Answered}

-- number 9 where rule or word does not fit, and what the call gives where they do
called : (job : Job) {n g rule w number count value : ℕ} → RuleFits job rule → WordFits job n g w → number < 10 → count < 10
    → Calls job n g rule w number count value → Answered job n g rule w number count value
called job a b l m k = record { digits = (l, m); refused = λ f. absurd (f a b); done = λ _ _. k }

-- a word is below 2^n exactly if nothing stands from digit n on
pub tells_below : {A : Type 0} (w n : ℕ) → A → Tells (A × (w < 2 ^ n)) (eqb (w / 2 ^ n) 0)
tells_below {A} w n a = go (eqb (w / 2 ^ n) 0) refl
  where
    go : (b : Bool) → eqb (w / 2 ^ n) 0 ≡ b → Tells (A × (w < 2 ^ n)) b
    go true e = tells_yes (a, high_zero w n (eqb-true (w / 2 ^ n) 0 e))
    go false e = tells_no (λ k. eqb-false (w / 2 ^ n) 0 e (div-eq_of_lt k.1))

-- ---- a code that passes the checks 1 to 3, and the degree of its generator

module _ {n g r : ℕ} (c : Code n g) (h : Degree g r) where
  pos : 0 < g
  pos = generator_pos c.generator

  -- a message moved up by r stays below 2^63
  pub message_room : (d : ℕ) → d < 2 ^ (n - r) → d * 2 ^ r < 2 ^ 63
  message_room d l =
      let all : n - r + r ≡ n = omega (arith, code_shorter c h) in
      lt_of_lt_of_le (rw all at (shl_lt (n - r) r l)) (pow_mono {j = 63} c.most)

  -- and so does its product
  pub message_product : (d : ℕ) → d < 2 ^ (n - r) → times g d < 2 ^ 64
  message_product d l =
      let all : n - r + r ≡ n = omega (arith, code_shorter c h) in
      rw times_comm (lt_of_lt_of_le (rw all at (times_lt (n - r) r d g l h.below)) (pow_mono {j = 64} (omega (arith, c.most))))

  -- ---- encoders, and the remainder

  -- what number 9 tests of a message
  pub tells_message : {A : Type 0} (d : ℕ) → A → Tells (A × MessageFits n g d) (eqb (d / 2 ^ (n - r)) 0)
  tells_message d a =
      let t = tells_below d (n - r) a in
      record { yes = λ e. let k = t.yes e in (k.0, message_fits c h k.1); no = λ e k. t.no e (k.0, message_below c h k.1) }

  pub answers_systematic : (rule d : ℕ) {s : ℕ} → RuleFits E rule × WordFits E n g d → Remainder (d * 2 ^ r) g s
      → Answered E n g rule d 0 0 (sum (d * 2 ^ r) s)
  answers_systematic rule d {s} a v =
      called E a.0 a.1 (omega arith) (omega arith)
      (encodes_done c Systematic a.1 (record { r = r; degree = h; rest = s; remainder = v; word = refl }), refl)

  pub answers_product : (rule d : ℕ) {v : ℕ} → RuleFits P rule × WordFits P n g d → v ≡ times d g → Answered P n g rule d 0 0 v
  answers_product rule d a e = called P a.0 a.1 (omega arith) (omega arith) (encodes_done c Product a.1 e, refl)

  pub answers_remainder : (rule w : ℕ) {s : ℕ} → RuleFits S rule × WordFits S n g w → Remainder w g s → Answered S n g rule w 0 0 s
  answers_remainder rule w a v = called S a.0 a.1 (omega arith) (omega arith) (leaves_done c a.1 v, refl)

  -- ---- decoders: the message of the mended word

  -- its first k cells
  pub answers_first : (rule w : ℕ) {number count code : ℕ} → w < 2 ^ n → number < 10 → count < 10 → FindsCode n g rule w number code count
      → Answered D n g rule w number count (code / 2 ^ r)
  answers_first rule w z l m s =
      called D tt z l m
      (found_decodes s First (λ e. record { r = r; degree = h; cells = refl }) (λ f. ap (λ (x : ℕ). x / 2 ^ r) (s.refused f).0 ∙ zero-div (2 ^ r)))

  -- its quotient, which 0 has none of
  quotient_none : {v e : ℕ} → Packed g r v e → v ≡ 0 → e / 2 ^ r ≡ 0
  quotient_none a z = quotient_unique (rw z at a.divided) (divided_lower (lower_zero pos))

  pub answers_quotient : (rule w e : ℕ) {number count code : ℕ} → w < 2 ^ n → number < 10 → count < 10 → FindsCode n g rule w number code count
      → Packed g r code e → Answered Q n g rule w number count (e / 2 ^ r)
  answers_quotient rule w e z l m s a =
      called Q tt z l m
      (found_decodes s Product (λ o. quotient_product pos a.divided (found_divides s o)) (λ f. quotient_none a (s.refused f).0))

  -- and a refusal is handed on
  pub refused_first : (rule w : ℕ) {number : ℕ} → w < 2 ^ n → number < 10 → FindsCode n g rule w number 0 0 → Answered D n g rule w number 0 0
  refused_first rule w z l s = rw zero-div at (answers_first rule w z l (lit< tt) s)

  pub refused_quotient : (rule w : ℕ) {number : ℕ} → w < 2 ^ n → number < 10 → FindsCode n g rule w number 0 0 → Answered Q n g rule w number 0 0
  refused_quotient rule w z l s = rw zero-div at (answers_quotient rule w 0 z l (lit< tt) s (packed_lower h (pow_pos r)))

-- ---- mending

module _ {n g : ℕ} (c : Code n g) (rule w : ℕ) where
  refused : {m : ℕ} → (m ≡ 0 → ⊥) → Verdict (carry_checks n g rule) m → FindsCode n g rule w m 0 0
  refused {m} f v = code_refused f (verdict_on (code_checks n g) (carry_checks n g rule) m (of_code c) v)

  pub mending_unknown : 2 < rule → FindsCode n g rule w 4 0 0
  mending_unknown l = refused (λ e. omega arith) (inl ((λ m. omega arith), refl))

  pub mending_uncarried : rule ≤ 2 → (Carries (Pattern n rule) g → ⊥) → FindsCode n g rule w 5 0 0
  mending_uncarried l f = refused (λ e. omega arith) (inr (l, inl (f, refl)))

-- ---- the families

module _ {f n r : ℕ} (h : Family f n r) where
  pub checked : Code n (get_or generators f 0)
  checked = rw h.length (family_code f h.row)

  -- a rule above the highest is not carried
  pub uncarried : {rule : ℕ} → rule ≤ 2 → highest f < rule → Carries (Pattern n rule) (get_or generators f 0) → ⊥
  uncarried {rule} l b = go (get_or pairs f false) refl b
    where
      go : (t : Bool) → get_or pairs f false ≡ t → cond t 2 1 < rule → Carries (Pattern n rule) (get_or generators f 0) → ⊥
      go true e b k = omega arith
      go false e b k =
          let two : rule ≡ 2 = omega arith in
          (family_shown f h.row).pairs.no e (rw (h.length, two) at k)

-- the code of a plate
pub plate_code : (p : Plate) → Code p.n p.g
plate_code p = rw p.generator (checked p.family)

-- ---- mending on a plate

module _ (p : Plate) {rule w s : ℕ} (below : w < 2 ^ p.n) (l : rule ≤ p.highest) (v : Remainder w p.g s) where
  allowed : Allowed p.n p.g rule
  allowed = record { code = plate_code p; known = omega (arith, p.carried, (plate_highest p).1); carried = plate_carries p l }

  pub plate_mends : {e : ℕ} → Has p.n p.g p.highest rule s e → FindsCode p.n p.g rule w 0 (sum w e) (ones e)
  plate_mends h = pattern_found allowed below v h.1 h.2 refl

  pub plate_unreadable : ((e : ℕ) → Has p.n p.g p.highest rule s e → ⊥) → FindsCode p.n p.g rule w 8 0 0
  plate_unreadable f = none_found allowed below v (λ e a b. f e (l, a, b))
