-- From a call on numbers to the same call on lent cells: its refusals, the checks of the cells behind them, and what was done.
-- Assumes nothing.
use mathlib.Core.Path.{ap, ◌≡◌, refl}
use mathlib.Core.List.{List, [], ◌∷◌, ◌++◌}
use mathlib.Core.Logic.{◌⊎◌, inl, inr}
use Prim.Native.Nat.{ℕ, ◌-◌, ◌^◌, ◌≤◌, ◌<◌}
use native.Mathlib.Omega.{arith}
use lib.ListN.{length}
use Rattle.poly.specs.Poly.{Degree}
use Rattle.poly.specs.Cells.{Cells, poly}
use Rattle.poly.proofs.Cells.{poly_lt}
use Rattle.cells.specs.Lent.{cells_check}
use Rattle.std.specs.Prelude.{Result, Ok, Err, MatchResult}
use Rattle.verdict.specs.Refusal.{number_of, number}
use Rattle.verdict.specs.declared.Refusal.{Refusal}
use Rattle.verdict.specs.declared.Refusal.TheVariants.{Cell}
use Rattle.verdict.specs.Verdict.{Check, Verdict, Passed, Where}
use Rattle.verdict.proofs.Verdict.{verdict_on, verdict_stop, passed_on, verdict_passed, settles_yes, settles_no}
use Rattle.codes.specs.Code.{code_checks, MessageLength}
use Rattle.codes.specs.Mending.{Pattern, Readable, rule_checks}
use Rattle.codes.specs.Coding.{Decoded}
use Rattle.codes.specs.Calls.{MessageFits, message_check, word_check, readable_check, slices_check, Encodes, Decodes, EncodesCells, DecodesCells, Written}
use Rattle.codes.proofs.Checking.{Code, Allowed, code_of, of_code, allowed_of, of_allowed, generator_degree, generator_r, message_room, message_length}
use Rattle.words.specs.Within.{lengths_check, Stands}
use Rattle.codes.proofs.Cutting.{first_number_lem, first_passed}

-- ---- a message of k = n - r cells

module _ {n g r : ℕ} (code : Code n g) (w : Where (0 < g) (Degree g r) (r ≡ 0)) where
  has : Degree g r
  has = generator_degree code.generator w

  pub length_room : r ≤ n
  length_room = omega (arith, generator_r code.generator w, code.generator.room)

  pub length_right : {k : ℕ} → k ≡ n - r → MessageLength n g k
  length_right = message_room has length_room

  -- the check of both lengths fails by a message of another length
  pub message_wrong : {k l : ℕ} → (k ≡ n - r → ⊥) → (lengths_check n g k l).passes → ⊥
  message_wrong f h = f (message_length has h.0)

-- and by a word of another
pub word_wrong : {n g k l : ℕ} → (l ≡ n → ⊥) → (lengths_check n g k l).passes → ⊥
word_wrong f h = f h.1

-- the check of the cells, as it is handed back
pub cells_verdict : (w : List ℕ) (r : Result (Unit {0}) Refusal) → MatchResult r (λ _. Cells w) (λ e. (e ≡ Cell) × (Cells w → ⊥))
    → Verdict (cells_check w ∷ []) (number r)
cells_verdict w (Ok x) h = inr (h, refl)
cells_verdict w (Err e) h = inl (h.1, ap number_of h.0)

-- ---- encoders

module _ (Word : ℕ → ℕ → ℕ → Type 0) {n g p m c : ℕ} (message word : List ℕ) (x : Encodes Word n g p m c) where
  abbrev behind : List Check
  behind = slices_check n g message word ∷ cells_check message ∷ []

  -- a number 1 to 3
  pub encode_first : (0 < m) × (m < 6) → EncodesCells Word n g message word word m
  encode_first l =
      settles_no (code_checks n g ++ behind) tt (λ e. omega (arith, e))
      (first_number_lem (code_checks n g) (message_check n g p ∷ []) behind m tt x.verdict l) refl

  pub encode_code : ((0 < m) × (m < 6) → ⊥) → Code n g
  encode_code f = code_of (first_passed (code_checks n g) (message_check n g p ∷ []) tt x.verdict f).0

  -- a number of the cells
  pub encode_lent : {l : ℕ} → Code n g → (l ≡ 0 → ⊥) → Verdict behind l → EncodesCells Word n g message word word l
  encode_lent {l} k f v = settles_no (code_checks n g ++ behind) tt f (verdict_on (code_checks n g) behind l (of_code k) v) refl

  -- the cells are right, so the message is theirs
  module _ {l : ℕ} (f : (0 < m) × (m < 6) → ⊥) (v : Verdict behind l) (e : l ≡ 0) (w : Where ((length message ≤ 63) × Cells message) (p ≡ poly message) (p ≡ 0)) where
    encode_right : Passed behind
    encode_right = verdict_passed behind tt v e

    encode_length : MessageLength n g (length message)
    encode_length = encode_right.0.0

    encode_long : length word ≡ n
    encode_long = encode_right.0.1

    pub encode_room : length message ≤ length word
    encode_room = omega (arith, encode_length.whole, encode_long)

    encode_stands : p ≡ poly message
    encode_stands = w.holds (omega (arith, (encode_code f).most, encode_length.whole), encode_right.1.0)

    encode_fits : MessageFits n g (poly message)
    encode_fits = record { k = length message; long = encode_length; below = poly_lt message encode_right.1.0 }

    -- the call on numbers was done
    pub encode_zero : m ≡ 0
    encode_zero = done (first_passed (code_checks n g) (message_check n g p ∷ []) tt x.verdict f).1
      where
        done : Verdict (message_check n g p ∷ []) m → m ≡ 0
        done (inl a) = absurd (a.0 (rw encode_stands encode_fits))
        done (inr a) = a.1

    encode_word : Word g (poly message) c
    encode_word = rw encode_stands at (x.done encode_zero)

    -- any cells that stand for the word
    pub encode_done : {word' : List ℕ} → Written n word' c → EncodesCells Word n g message word word' 0
    encode_done z = settles_yes (code_checks n g ++ behind) tt (passed_on (code_checks n g) behind (of_code (encode_code f)) encode_right) (c, encode_word, z)

    -- and so those that a rule writes
    pub encode_written : {written : List ℕ → List ℕ → ℕ → List ℕ} → Stands Word written → EncodesCells Word n g message word (written message word c) 0
    encode_written z = encode_done (z n g c message word encode_word encode_length encode_right.1.0 encode_long)

-- ---- decoders

module _ (Says : ℕ → ℕ → ℕ → Type 0) {n g rule p m d count : ℕ} (word message : List ℕ) (x : Decodes Says n g rule p m d count) where
  abbrev lentChecks : List Check
  lentChecks = slices_check n g message word ∷ cells_check word ∷ []

  abbrev last : List Check
  last = lentChecks ++ (readable_check n g rule (poly word) ∷ [])

  abbrev number_checks : List Check
  number_checks = word_check n p ∷ readable_check n g rule p ∷ []

  -- a number 1 to 5
  pub decode_first : (0 < m) × (m < 6) → DecodesCells Says n g rule word message message m 0
  decode_first l =
      settles_no (rule_checks n g rule ++ last) tt (λ e. omega (arith, e)) (first_number_lem (rule_checks n g rule) number_checks last m tt x.verdict l) (refl, refl)

  pub decode_allowed : ((0 < m) × (m < 6) → ⊥) → Allowed n g rule
  decode_allowed f = allowed_of (first_passed (rule_checks n g rule) number_checks tt x.verdict f).0

  -- a number of the cells
  pub decode_lent : {l : ℕ} → Allowed n g rule → (l ≡ 0 → ⊥) → Verdict lentChecks l → DecodesCells Says n g rule word message message l 0
  decode_lent {l} a f v =
      settles_no (rule_checks n g rule ++ last) tt f
      (verdict_on (rule_checks n g rule) last l (of_allowed a) (verdict_stop lentChecks (readable_check n g rule (poly word) ∷ []) f v)) (refl, refl)

  -- the cells are right, so the word is theirs
  module _ {l : ℕ} (f : (0 < m) × (m < 6) → ⊥) (v : Verdict lentChecks l) (e : l ≡ 0) (w : Where ((length word ≤ 63) × Cells word) (p ≡ poly word) (p ≡ 0)) where
    decode_right : Passed lentChecks
    decode_right = verdict_passed lentChecks tt v e

    decode_stands : p ≡ poly word
    decode_stands = w.holds (omega (arith, (decode_allowed f).code.most, decode_right.0.1), decode_right.1.0)

    -- what is left is whether it is readable
    decode_last : (m ≡ 0) ⊎ ((Readable (Pattern n rule) n g (poly word) → ⊥) × (m ≡ 8))
    decode_last = go (first_passed (rule_checks n g rule) number_checks tt x.verdict f).1
      where
        fits : p < 2 ^ n
        fits = rw (decode_stands, ← decode_right.0.1) (poly_lt word decode_right.1.0)

        go : Verdict number_checks m → (m ≡ 0) ⊎ ((Readable (Pattern n rule) n g (poly word) → ⊥) × (m ≡ 8))
        go (inl a) = absurd (a.0 fits)
        go (inr (b, inl a)) = inr (rw decode_stands at a.0, a.1)
        go (inr (b, inr a)) = inl a.1

    pub decode_unread : (m ≡ 0 → ⊥) → DecodesCells Says n g rule word message message m 0
    decode_unread h = go decode_last
      where
        go : (m ≡ 0) ⊎ ((Readable (Pattern n rule) n g (poly word) → ⊥) × (m ≡ 8)) → DecodesCells Says n g rule word message message m 0
        go (inl z) = absurd (h z)
        go (inr u) =
            settles_no (rule_checks n g rule ++ last) tt h
            (verdict_on (rule_checks n g rule) last m (of_allowed (decode_allowed f)) (inr (decode_right.0, inr (decode_right.1.0, inl (u.0, u.1))))) (refl, refl)

    pub decode_decoded : m ≡ 0 → Decoded (Pattern n rule) (Says g) n g (poly word) d count
    decode_decoded z = rw decode_stands at (x.done z)

    pub decode_length : MessageLength n g (length message)
    decode_length = decode_right.0.0

    pub decode_done : {message' : List ℕ} → m ≡ 0 → Written (length message) message' d → DecodesCells Says n g rule word message message' 0 count
    decode_done z y =
        let r = decode_decoded z in
        settles_yes (rule_checks n g rule ++ last) tt
        (passed_on (rule_checks n g rule) last (of_allowed (decode_allowed f))
        (decode_right.0, (decode_right.1.0, ((r.code, r.mends), tt)))) (d, r, y)
