-- Which word is taken follows from the two decodings: never both, and none where a check refuses.
-- Assumes nothing.
use mathlib.Core.Path.{◌≡◌, refl, sym, ap, ◌∙◌}
use mathlib.Core.HLevel.{Discrete}
use mathlib.Core.List.{List, [], ◌∷◌, List-discrete}
use mathlib.Core.Logic.{◌⊎◌, inl, inr}
use Prim.Native.Nat.{ℕ, ◌^◌, ◌≤◌, ◌<◌}
use native.Mathlib.Decide.{ℕ_discrete}
use native.Mathlib.Omega.{arith}
use lib.Count.{ones}
use lib.ListN.{length}
use Rattle.poly.specs.Poly.{sum}
use Rattle.poly.specs.Cells.{Cells, poly}
use Rattle.poly.proofs.Cells.{poly_lt}
use Rattle.verdict.specs.Verdict.{Check, Verdict, Passed, Where}
use Rattle.verdict.proofs.Verdict.{verdict_settled, passed_verdict, settles_done, passed_on, passed_first, passed_last, verdict_stop, verdict_on}
use Rattle.codes.specs.Mending.{Pattern, Mends, Readable, rule_checks}
use Rattle.codes.specs.Coding.{First, Decoded}
use Rattle.codes.specs.Calls.{word_check, readable_check, Decodes}
use Rattle.codes.proofs.Checking.{Allowed, allowed_of, of_allowed}
use Rattle.codes.proofs.Calls.{readable_passed}
use Rattle.codes.proofs.Coding.{allowed_unique, first_unique}
use Rattle.codes.proofs.Cutting.{first_number_lem, first_passed}
use Rattle.std.specs.Prelude.{Result, Ok, Err, Option, Some, None}
use Rattle.std.specs.Result.{result_ok}
use Rattle.verdict.specs.Refusal.{number}
use Rattle.verdict.specs.declared.Refusal.{Refusal}
use Rattle.numbers.specs.declared.Decoding.{Decoding}
use Rattle.numbers.specs.Results.{message, mended}
use Rattle.readings.specs.declared.Taken.{Taken}
use Rattle.readings.specs.declared.Taken.TheVariants.{First as TakenFirst, Second as TakenSecond}
use Rattle.readings.specs.Taken.{taken_in, taken_number}
use Rattle.readings.specs.Readings.{Agree, SecondWord, alone, fewer, FirstWord, only, enough, both_check, cells_check, words_checks, message_checks, reading_checks, TakesFirst, TakesSecond, Numbered, Picks}
use Rattle.readings.specs.Within.{Weighs, neither, only_second, only_first, differ, Chosen}
use Rattle.readings.specs.Within.{fewer as weighs-fewer, enough as weighs-enough}

-- ---- one word: what its decoding says

module _ {n g rule : ℕ} (a : Allowed n g rule) where
  module _ {p : ℕ} (w : List ℕ) (x : Result Decoding Refusal) (h : Decodes First n g rule p (number x) (message x) (mended x)) (long : length w ≡ n) (fine : Cells w)
      (v : Where ((length w ≤ 63) × Cells w) (p ≡ poly w) (p ≡ 0)) where
    stands : p ≡ poly w
    stands = v.holds (omega (arith, a.code.most, long), fine)

    pub read : number x ≡ 0 → Decoded (Pattern n rule) (First g) n g (poly w) (message x) (mended x)
    read e = rw stands at (h.done e)

    pub unread : (number x ≡ 0 → ⊥) → Readable (Pattern n rule) n g (poly w) → ⊥
    unread f r =
        let below : p < 2 ^ n = rw (stands, ← long) (poly_lt w fine) in f (settles_done h (readable_passed a below (rw stands r))).0

  pub decoded_readable : {w d k : ℕ} → Decoded (Pattern n rule) (First g) n g w d k → Readable (Pattern n rule) n g w
  decoded_readable r = (r.code, r.mends)

  -- ---- two words

  module _ {u v : ℕ} where
    -- never both
    pub first_not_second : FirstWord (Pattern n rule) n g u v → SecondWord (Pattern n rule) n g u v → ⊥
    first_not_second (only r f) (alone h s) = h r
    first_not_second (only r f) (fewer c d h l) = f (d, h.second)
    first_not_second (enough c d h l) (alone f s) = f (c, h.first)
    first_not_second (enough c d h l) (fewer c' d' h' l') =
        let e : ones (sum u c) ≡ ones (sum u c') = ap (λ (x : ℕ). ones (sum u x)) (allowed_unique a u h.first h'.first) in
        let s : ones (sum v d) ≡ ones (sum v d') = ap (λ (x : ℕ). ones (sum v x)) (allowed_unique a v h.second h'.second) in
        omega (arith, e, s)

    -- what agrees with two decodings
    module _ {m m' k k' : ℕ} (x : Decoded (Pattern n rule) (First g) n g u m k) (y : Decoded (Pattern n rule) (First g) n g v m' k') where
      pub agrees : {c d : ℕ} → Agree (Pattern n rule) n g u v c d → m ≡ m'
      agrees {c} {d} h =
          let fx : First g m c = rw (allowed_unique a u x.mends h.first) at x.message in
          let fy : First g m' d = rw (allowed_unique a v y.mends h.second) at y.message in
          first_unique fx h.of_first ∙ sym (first_unique fy h.of_second)

      pub agree : m ≡ m' → Agree (Pattern n rule) n g u v x.code y.code
      agree e = record { first = x.mends; second = y.mends; message = m; of_first = x.message; of_second = rw e y.message }

      pub messages : (c d i j : ℕ) → Mends (Pattern n rule) n g u c → Mends (Pattern n rule) n g v d → First g i c → First g j d → m ≡ m' → i ≡ j
      messages c d i j p q s t e =
          let fx : First g m c = rw (allowed_unique a u x.mends p) at x.message in
          let fy : First g m' d = rw (allowed_unique a v y.mends q) at y.message in
          first_unique s fx ∙ e ∙ first_unique fy t

-- ---- the choice

one_zero : {A : Type 0} → ◌≡◌ {A = ℕ} 0 1 → A
one_zero e = absurd (let f : ⊥ = omega (arith, e) in f)

two_zero : {A : Type 0} → ◌≡◌ {A = ℕ} 0 2 → A
two_zero e = absurd (let f : ⊥ = omega (arith, e) in f)

module _ (n g rule : ℕ) (a b : List ℕ) where
  -- no word is taken
  none_chosen : {m : ℕ} → (m ≡ 0 → ⊥) → Verdict (reading_checks n g rule a b) m → (TakesFirst n g rule a b → ⊥) → (TakesSecond n g rule a b → ⊥)
      → Chosen n g rule a b m 0
  none_chosen f v p q =
      record { verdict = v; first = one_zero; second = two_zero; none = λ i j. (p, q); zero = λ e. absurd (f e); other = λ h. (one_zero, two_zero) }

  -- one of the two is
  first_chosen : Verdict (reading_checks n g rule a b) 0 → TakesFirst n g rule a b → Chosen n g rule a b 0 1
  first_chosen v t = record {
    verdict = v;
    first = λ e. t;
    second = λ e. absurd (let f : ⊥ = omega (arith, e) in f);
    none = λ i j. absurd (i refl);
    zero = λ e i. absurd (i refl);
    other = λ h. absurd (h refl);
  }

  second_chosen : Verdict (reading_checks n g rule a b) 0 → TakesSecond n g rule a b → Chosen n g rule a b 0 2
  second_chosen v t = record {
    verdict = v;
    first = λ e. absurd (let f : ⊥ = omega (arith, e) in f);
    second = λ e. t;
    none = λ i j. absurd (j refl);
    zero = λ e i. refl;
    other = λ h. absurd (h refl);
  }

  -- a check 1 to 7 refused
  pub refused_chosen : {m : ℕ} → (m ≡ 0 → ⊥) → Verdict (words_checks n g rule a b) m → Chosen n g rule a b m 0
  refused_chosen {m} f v =
      none_chosen f (verdict_stop (words_checks n g rule a b) (message_checks n g rule a b) f v) (λ t. not_passed t.0) (λ t. not_passed t.0)
    where
      not_passed : Passed (words_checks n g rule a b) → ⊥
      not_passed p = f (verdict_settled (words_checks n g rule a b) v (passed_verdict (words_checks n g rule a b) p))

  -- by code or rule
  module _ {p m d k : ℕ} (h : Decodes First n g rule p m d k) where
    number_checks : List Check
    number_checks = word_check n p ∷ readable_check n g rule p ∷ []

    pub code_refused : (0 < m) × (m < 6) → Chosen n g rule a b m 0
    unfolding number_checks
    code_refused l =
        refused_chosen (λ e. omega (arith, e))
        (first_number_lem (rule_checks n g rule) number_checks (both_check n a b ∷ cells_check a b ∷ []) m tt h.verdict l)

    pub code_allowed : ((0 < m) × (m < 6) → ⊥) → Allowed n g rule
    unfolding number_checks
    code_allowed f = allowed_of (first_passed (rule_checks n g rule) number_checks tt h.verdict f).0

  module _ (h : Allowed n g rule) where
    -- by the words
    pub words_refused : {m : ℕ} → (m ≡ 0 → ⊥) → Verdict (both_check n a b ∷ cells_check a b ∷ []) m → Chosen n g rule a b m 0
    words_refused {m} f v = refused_chosen f (verdict_on (rule_checks n g rule) (both_check n a b ∷ cells_check a b ∷ []) m (of_allowed h) v)

    module _ (long : (length a ≡ n) × (length b ≡ n)) (fine : Cells a × Cells b) where
      right : Passed (words_checks n g rule a b)
      right = passed_on (rule_checks n g rule) (both_check n a b ∷ cells_check a b ∷ []) (of_allowed h) (long, (fine, tt))

      -- the messages decide
      decides : (m : ℕ) → Verdict (message_checks n g rule a b) m → Verdict (reading_checks n g rule a b) m
      decides m = verdict_on (words_checks n g rule a b) (message_checks n g rule a b) m right

      -- by the two decodings
      module _ {p q : ℕ} (x y : Result Decoding Refusal) (dx : Decodes First n g rule p (number x) (message x) (mended x))
          (dy : Decodes First n g rule q (number y) (message y) (mended y)) (vx : Where ((length a ≤ 63) × Cells a) (p ≡ poly a) (p ≡ 0))
          (vy : Where ((length b ≤ 63) × Cells b) (q ≡ poly b) (q ≡ 0)) where
        rx : number x ≡ 0 → Decoded (Pattern n rule) (First g) n g (poly a) (message x) (mended x)
        rx = read h a x dx long.0 fine.0 vx

        ry : number y ≡ 0 → Decoded (Pattern n rule) (First g) n g (poly b) (message y) (mended y)
        ry = read h b y dy long.1 fine.1 vy

        ux : (number x ≡ 0 → ⊥) → Readable (Pattern n rule) n g (poly a) → ⊥
        ux = unread h a x dx long.0 fine.0 vx

        uy : (number y ≡ 0 → ⊥) → Readable (Pattern n rule) n g (poly b) → ⊥
        uy = unread h b y dy long.1 fine.1 vy

        -- the messages agree, or one of the words has none
        fine_with : Readable (Pattern n rule) n g (poly a) ⊎ Readable (Pattern n rule) n g (poly b)
            → ((c d i j : ℕ) → Mends (Pattern n rule) n g (poly a) c → Mends (Pattern n rule) n g (poly b) d → First g i c → First g j d → i ≡ j)
            → Verdict (reading_checks n g rule a b) 0
        fine_with r s = decides 0 (inr (s, inr (r, refl)))

        pub weighed : {m w : ℕ} → Weighs x y m w → Chosen n g rule a b m w
        weighed (neither f i) =
            none_chosen (λ e. omega (arith, e))
            (decides 8 (inr ((λ c d k l s t. absurd (ux f (c, s))), inl ((λ r. none r), refl)))) (λ t. not_first t.1) (λ t. not_second t.1)
          where
            none : Readable (Pattern n rule) n g (poly a) ⊎ Readable (Pattern n rule) n g (poly b) → ⊥
            none (inl r) = ux f r
            none (inr r) = uy i r

            not_first : FirstWord (Pattern n rule) n g (poly a) (poly b) → ⊥
            not_first (only r s) = ux f r
            not_first (enough c d s l) = ux f (c, s.first)

            not_second : SecondWord (Pattern n rule) n g (poly a) (poly b) → ⊥
            not_second (alone s r) = uy i r
            not_second (fewer c d s l) = ux f (c, s.first)
        weighed (only_second f e) =
            second_chosen (fine_with (inr (decoded_readable h (ry e))) (λ c d k l s t. absurd (ux f (c, s)))) (right, alone (ux f) (decoded_readable h (ry e)))
        weighed (only_first e f) =
            first_chosen (fine_with (inl (decoded_readable h (rx e))) (λ c d k l s t. absurd (uy f (d, t)))) (right, only (decoded_readable h (rx e)) (uy f))
        weighed (differ e i f) =
            none_chosen (λ z. omega (arith, z))
            (decides 10 (inl ((λ s. f (s (rx e).code (ry i).code (message x) (message y) (rx e).mends (ry i).mends (rx e).message (ry i).message)), refl)))
            (λ t. not_first t.1) (λ t. not_second t.1)
          where
            not_first : FirstWord (Pattern n rule) n g (poly a) (poly b) → ⊥
            not_first (only r s) = s (decoded_readable h (ry i))
            not_first (enough c d s l) = f (agrees h (rx e) (ry i) s)

            not_second : SecondWord (Pattern n rule) n g (poly a) (poly b) → ⊥
            not_second (alone s r) = s (decoded_readable h (rx e))
            not_second (fewer c d s l) = f (agrees h (rx e) (ry i) s)
        weighed (weighs-fewer e i s l) =
            second_chosen (fine_with (inl (decoded_readable h (rx e))) (λ c d k j u t p q. messages h (rx e) (ry i) c d k j u t p q s))
            (right, fewer (rx e).code (ry i).code (agree h (rx e) (ry i) s) (rw (← (rx e).differ, ← (ry i).differ) l))
        weighed (weighs-enough e i s l) =
            first_chosen (fine_with (inl (decoded_readable h (rx e))) (λ c d k j u t p q. messages h (rx e) (ry i) c d k j u t p q s))
            (right, enough (rx e).code (ry i).code (agree h (rx e) (ry i) s) (rw (← (rx e).differ, ← (ry i).differ) l))

-- ---- what is handed back

pub takes_not_both : (n g rule : ℕ) (a b : List ℕ) → TakesFirst n g rule a b → TakesSecond n g rule a b → ⊥
takes_not_both n g rule a b s t =
    first_not_second (allowed_of (passed_first (rule_checks n g rule) (both_check n a b ∷ cells_check a b ∷ []) s.0)) s.1 t.1

module _ {A : Type 0} {n g rule m w : ℕ} {a b : List ℕ} (x : Chosen n g rule a b m w) (first second : A) (None : A → Type 0) where
  pub picks_first : w ≡ 1 → Picks n g rule a b first second None first
  picks_first e = record {
    takes_first = λ t. refl;
    takes_second = λ t. absurd (takes_not_both n g rule a b (x.first e) t);
    takes_none = λ f h. absurd (f (x.first e));
  }

  pub picks_second : w ≡ 2 → Picks n g rule a b first second None second
  picks_second e = record {
    takes_first = λ t. absurd (takes_not_both n g rule a b t (x.second e));
    takes_second = λ t. refl;
    takes_none = λ f h. absurd (h (x.second e));
  }

  pub picks_none : (picked : A) → (w ≡ 1 → ⊥) → (w ≡ 2 → ⊥) → None picked → Picks n g rule a b first second None picked
  picks_none picked i j e =
      let none = x.none i j in
      record { takes_first = λ t. absurd (none.0 t); takes_second = λ t. absurd (none.1 t); takes_none = λ f h. e }

-- which of the two, as a number
pub picks_word : {n g rule : ℕ} {a b : List ℕ} (r : Result Taken Refusal) → Chosen n g rule a b (number r) (taken_in r)
    → Picks n g rule a b 1 2 (λ h. h ≡ 0) (taken_number (result_ok r))
picks_word (Ok TakenFirst) x = picks_first x 1 2 (λ h. h ≡ 0) refl
picks_word (Ok TakenSecond) x = picks_second x 1 2 (λ h. h ≡ 0) refl
picks_word (Err e) x = picks_none x 1 2 (λ h. h ≡ 0) 0 one_zero two_zero refl

-- the number is 0 exactly if a word is taken
pub number_chosen : {n g rule m w : ℕ} (a b : List ℕ) → Chosen n g rule a b m w
    → Numbered n g rule a b m
number_chosen {n} {g} {rule} {m} {w} a b x =
    record { ordered = tt; verdict = x.verdict; done = λ e. go e (ℕ_discrete w 1); refused = λ f. x.none (x.other f).0 (x.other f).1 }
  where
    go : m ≡ 0 → Dec (w ≡ 1) → TakesFirst n g rule a b ⊎ TakesSecond n g rule a b
    go e (yes one) = inl (x.first one)
    go e (no f) = inr (x.second (x.zero e f))

-- ---- two results of one call

pub better_number_settled : {n g rule m m' : ℕ} (a b : List ℕ) → Numbered n g rule a b m → Numbered n g rule a b m' → m ≡ m'
better_number_settled {n} {g} {rule} a b x y = verdict_settled (reading_checks n g rule a b) x.verdict y.verdict

-- what is told of the one picked, in a type whose equality can be decided, is one thing: `told` is the cells of a slice, or the number itself
module _ {A B : Type 0} (told : A → B) (none : B) (same : Discrete B) where
  picks_settled : {n g rule : ℕ} {a b : List ℕ} {first second r s : A} → Picks n g rule a b first second (λ h. told h ≡ none) r
      → Picks n g rule a b first second (λ h. told h ≡ none) s → told r ≡ told s
  picks_settled {n} {g} {rule} {a} {b} {r = r} {s = s} p q = go (same (told r) (told s))
    where
      go : Dec (told r ≡ told s) → told r ≡ told s
      go (yes e) = e
      go (no f) =
          let i : TakesFirst n g rule a b → ⊥ = λ t. f (ap told (p.takes_first t ∙ sym (q.takes_first t))) in
          let j : TakesSecond n g rule a b → ⊥ = λ t. f (ap told (p.takes_second t ∙ sym (q.takes_second t))) in
          p.takes_none i j ∙ sym (q.takes_none i j)

-- the cells handed back, and the slice itself where a word is taken
pub better_settled : {A : Type 0} (cells : A → List ℕ) {n g rule : ℕ} {a b : List ℕ} {first second r s : A}
    → Picks n g rule a b first second (λ h. cells h ≡ []) r → Picks n g rule a b first second (λ h. cells h ≡ []) s
    → (cells r ≡ cells s) × (TakesFirst n g rule a b ⊎ TakesSecond n g rule a b → r ≡ s)
better_settled cells {n} {g} {rule} {a} {b} {r = r} {s = s} p q = (picks_settled cells [] (List-discrete ℕ_discrete) p q, slice)
  where
    slice : TakesFirst n g rule a b ⊎ TakesSecond n g rule a b → r ≡ s
    slice (inl t) = p.takes_first t ∙ sym (q.takes_first t)
    slice (inr t) = p.takes_second t ∙ sym (q.takes_second t)

pub better_word_settled : {n g rule v w : ℕ} {a b : List ℕ} → Picks n g rule a b 1 2 (λ h. h ≡ 0) v → Picks n g rule a b 1 2 (λ h. h ≡ 0) w → v ≡ w
better_word_settled = picks_settled (λ h. h) 0 ℕ_discrete

-- and the word taken is known by its number
pub taken_same : (v w : Option Taken) → taken_number v ≡ taken_number w → v ≡ w
taken_same (Some TakenFirst) (Some TakenFirst) e = refl
taken_same (Some TakenFirst) (Some TakenSecond) e = absurd (let f : ⊥ = omega (arith, e) in f)
taken_same (Some TakenFirst) None e = absurd (let f : ⊥ = omega (arith, e) in f)
taken_same (Some TakenSecond) (Some TakenFirst) e = absurd (let f : ⊥ = omega (arith, e) in f)
taken_same (Some TakenSecond) (Some TakenSecond) e = refl
taken_same (Some TakenSecond) None e = absurd (let f : ⊥ = omega (arith, e) in f)
taken_same None (Some TakenFirst) e = absurd (let f : ⊥ = omega (arith, e) in f)
taken_same None (Some TakenSecond) e = absurd (let f : ⊥ = omega (arith, e) in f)
taken_same None None e = refl

-- ---- the two calls together: the number is 0 exactly if cells are handed back

module _ {A : Type 0} (cells : A → List ℕ) {n g rule m : ℕ} {first second r : A} (x : Numbered n g rule (cells first) (cells second) m)
    (p : Picks n g rule (cells first) (cells second) first second (λ h. cells h ≡ []) r) where
  -- words of n cells are not empty
  some_cells : Passed (words_checks n g rule (cells first) (cells second)) → (h : A) → length (cells h) ≡ n → cells h ≡ [] → ⊥
  some_cells t h l e =
      let least = (allowed_of (passed_first (rule_checks n g rule) (both_check n (cells first) (cells second) ∷ cells_check (cells first) (cells second) ∷ []) t)).code.least in
      omega (arith, least, l, ap length e)

  long : Passed (words_checks n g rule (cells first) (cells second)) → (length (cells first) ≡ n) × (length (cells second) ≡ n)
  long t = (passed_last (rule_checks n g rule) (both_check n (cells first) (cells second) ∷ cells_check (cells first) (cells second) ∷ []) t).0

  pub better_given : m ≡ 0 → cells r ≡ [] → ⊥
  better_given e none = go (x.done e)
    where
      go : TakesFirst n g rule (cells first) (cells second) ⊎ TakesSecond n g rule (cells first) (cells second) → ⊥
      go (inl t) = some_cells t.0 first (long t.0).0 (rw (p.takes_first t) at none)
      go (inr t) = some_cells t.0 second (long t.0).1 (rw (p.takes_second t) at none)

  pub better_none : (m ≡ 0 → ⊥) → cells r ≡ []
  better_none f = p.takes_none (x.refused f).0 (x.refused f).1
