-- What the tables say where they are read, and that nothing but these two tables says it.
-- Assumes nothing.
use mathlib.Core.Path.{◌≡◌, refl, sym, ap, ap₂, ◌∙◌}
use mathlib.Core.Bool.{Bool, true, false, cond}
use mathlib.Core.List.{List}
use mathlib.Core.Logic.{◌⊎◌, inl, inr}
use Prim.Native.Nat.{ℕ, zero, suc, ◌+◌, ◌*◌, ◌/◌, ◌%◌, ◌^◌, ◌≤◌, ◌<◌}
use native.Mathlib.Decide.{ℕ_discrete}
use native.Mathlib.Nat.{mul-le-mul, mod-one, mod-lt, mod-eq_of_lt}
use native.Mathlib.Omega.{arith}
use lib.ListN.{get_or}
use lib.Pow.{pow_pos, split, mod-pow-add}
use lib.Seq.{ext_get_or}
use Rattle.poly.specs.Poly.{sum, Degree, Remainder}
use Rattle.poly.proofs.Computed.{degree}
use Rattle.poly.proofs.Sum.{sum_comm, sum_shifted}
use Rattle.poly.proofs.Degree.{degree_of_lem}
use Rattle.poly.proofs.Coefficient.{lt_or_le}
use Rattle.poly.proofs.Division.{quotient_unique, remainder_unique}
use Rattle.codes.specs.Mending.{Pattern, none, single, pair, ends, Carries}
use Rattle.codes.specs.Row.{pattern_at, pattern_count}
use Rattle.codes.proofs.Checking.{allowed_of}
use Rattle.codes.proofs.Row.{count_none, count_single, count_pairs, row_pattern, pattern_row, row_apart}
use Rattle.families.specs.Families.{lengths, generators, pairs}
use Rattle.families.proofs.Families.{family_shown, family_code, family_pos, family_long}
use Rattle.tables.specs.Tables.{Packed, piece, Parts, Place, highest, Places}
use Rattle.tables.proofs.Packing.{packed-sum, packed_lower, packed_remainder}
use Rattle.tables.proofs.Pieces.{piece_is}

-- ---- the rules that a family carries

-- a rule has n patterns more than the one below it
pub count_rule : (n rule : ℕ) → 2 < n → rule ≤ 2 → pattern_count n rule ≡ n * rule + 1
count_rule n zero l h = rw (count_none n 0 refl) (omega arith)
count_rule n (suc zero) l h = rw (count_single n 1 refl) (omega arith)
count_rule n (suc (suc zero)) l h = rw (count_pairs n 2 (omega arith) l) (omega arith)
count_rule n (suc (suc (suc rule))) l h = let b : ⊥ = omega arith in absurd b

-- a pattern of a rule is one of every higher rule
pub pattern_more : {n rule more e : ℕ} → rule ≤ more → Pattern n rule e → Pattern n more e
pattern_more l none = none
pattern_more l (single i b h) = single i b (omega arith)
pattern_more l (pair i b h) = pair i b (omega arith)
pattern_more l (ends h) = ends (omega arith)

-- the highest rule of a family is carried, and so is every lower one
pub highest_carried : (f : ℕ) → f < 12 → (1 ≤ highest f) × (highest f ≤ 2) × Carries (Pattern (get_or lengths f 0) (highest f)) (get_or generators f 0)
highest_carried f l = go (get_or pairs f false) refl
  where
    go : (b : Bool) → get_or pairs f false ≡ b
        → (1 ≤ cond b 2 1) × (cond b 2 1 ≤ 2) × Carries (Pattern (get_or lengths f 0) (cond b 2 1)) (get_or generators f 0)
    go true e = (omega arith, omega arith, (family_shown f l).pairs.yes e)
    go false e = (omega arith, omega arith, (allowed_of (family_shown f l).singles).carried)

pub rule_carried : (f rule : ℕ) → f < 12 → rule ≤ highest f → Carries (Pattern (get_or lengths f 0) rule) (get_or generators f 0)
rule_carried f rule l h e d s a b = (highest_carried f l).2 e d s (pattern_more h a) (pattern_more h b)

-- ---- where the pattern table is read

-- n cells, patterns of a rule that is carried, and an entry over them
module _ {n g top s : ℕ} (long : 2 < n) (most : n ≤ 63) (known : top ≤ 2) (carried : Carries (Pattern n top) g) where
  -- no two places of the row have one remainder
  apart : (i j : ℕ) → i < j → j < pattern_count n top → Remainder (pattern_at n i) g s → Remainder (pattern_at n j) g s → ⊥
  apart i j l b v w =
      row_apart n (omega arith) top i j l b
      (carried (pattern_at n i) (pattern_at n j) s (row_pattern n top (omega arith) i (omega arith)) (row_pattern n top (omega arith) j b) v w)

  module _ (rule : ℕ) (h : rule ≤ top) where
    -- an entry in the row of a lower rule is a pattern of that rule with the remainder
    pub place_found : {e : ℕ} → Place n g (pattern_count n top) s e → e ≤ n * rule → Pattern n rule (pattern_at n e) × Remainder (pattern_at n e) g s
    place_found {e} (inl a) l = (row_pattern n rule (omega arith) e (rw (count_rule n rule long (omega arith)) (omega arith)), a.1)
    place_found (inr a) l = let c : ⊥ = omega (arith, mul-le-mul most (let k : rule ≤ 2 = omega arith in k)) in absurd c

    -- and an entry past it says that the rule has none
    pub place_missing : {e : ℕ} → Place n g (pattern_count n top) s e → n * rule < e → (p : ℕ) → Pattern n rule p → Remainder p g s → ⊥
    place_missing {e} (inl a) l p q v =
        let k = pattern_row n rule (omega arith) q in
        apart k.0 e (omega (arith, k.1, count_rule n rule long (omega arith))) a.0 (rw k.2 v) a.1
    place_missing (inr a) l p q v =
        let k = pattern_row n top (omega arith) (pattern_more h q) in a.1 k.0 k.1 (rw k.2 v)

  -- an entry is settled
  place_same : (d e : ℕ) → Place n g (pattern_count n top) s d → Place n g (pattern_count n top) s e → d ≡ e
  place_same d e (inl a) (inl b) = go (ℕ_discrete d e) (lt_or_le d e)
    where
      go : Dec (d ≡ e) → (d < e) ⊎ (e ≤ d) → d ≡ e
      go (yes same) o = same
      go (no f) (inl l) = absurd (apart d e l b.0 a.1 b.1)
      go (no f) (inr l) = absurd (apart e d (omega (arith, f)) a.0 b.1 a.1)
  place_same d e (inl a) (inr b) = absurd (b.1 d a.0 a.1)
  place_same d e (inr a) (inl b) = absurd (a.1 e b.0 b.1)
  place_same d e (inr a) (inr b) = a.0 ∙ sym b.0

-- ---- a word divided four digits at a time, from the lowest: e stands for the digits below 4 i

module _ (f word : ℕ) where
  -- quotient and remainder of the digits below 4 i
  abbrev pub Below : ℕ → ℕ → Type 0
  Below i e = (r : ℕ) → Degree (get_or generators f 0) r → Packed (get_or generators f 0) r (word % 2 ^ (i * 4)) e

  pub word_none : Below 0 0
  word_none r h = rw mod-one (packed_lower h (pow_pos r))

  pub word_more : (t : List ℕ) (i e : ℕ) → Parts t → f < 12 → i < 16 → Below i e
      → Below (i + 1) (sum e (get_or t (f * 256 + i * 16 + word / 2 ^ (i * 4) % 16) 0))
  word_more t i e p l b s r h =
      let d = word / 2 ^ (i * 4) % 16 in
      let j = f * 256 + i * 16 + d in
      let row : j / 256 ≡ f = omega arith in
      let column : j % 256 ≡ i * 16 + d = omega arith in
      let four : piece (i * 16 + d) ≡ d * 2 ^ (i * 4) = piece_is (i * 16 + d) d i (omega arith) (omega arith) in
      let more : word % 2 ^ ((i + 1) * 4) ≡ sum (word % 2 ^ (i * 4)) (d * 2 ^ (i * 4)) =
      ap (λ (k : ℕ). word % 2 ^ k) (let k : (i + 1) * 4 ≡ 4 + i * 4 = omega arith in k) ∙ mod-pow-add word 4 (i * 4)
      ∙ sym (sum_shifted d (i * 4) (word % 2 ^ (i * 4)) (mod-lt word (pow_pos (i * 4)))) ∙ sum_comm (d * 2 ^ (i * 4)) (word % 2 ^ (i * 4)) in
      rw more (packed-sum (s r h) (rw (row, column, four) at (p.at j (omega arith) r (rw row h))))

  pub word_all : {e : ℕ} → word < 2 ^ 64 → Below 16 e → (r : ℕ) → Degree (get_or generators f 0) r → Packed (get_or generators f 0) r word e
  word_all l s r h = rw (mod-eq_of_lt l) at (s r h)

-- ---- two results of one call

pub packed_same : {g r p d e : ℕ} → Packed g r p d → Packed g r p e → d ≡ e
packed_same {r = r} {d = d} {e = e} a b =
    sym (split d r)
    ∙ ap₂ (λ (q s : ℕ). q * 2 ^ r + s) (quotient_unique a.divided b.divided) (remainder_unique (packed_remainder a) (packed_remainder b))
    ∙ split e r

pub parts_settled : {t u : List ℕ} → Parts t → Parts u → t ≡ u
parts_settled {t} {u} a b =
    ext_get_or 0 t u (a.long ∙ sym b.long) λ j l.
    let k : j < 3072 = rw a.long at l in
    let g = get_or generators (j / 256) 0 in
    let h = degree_of_lem g (family_pos (j / 256) (omega arith)) in
    packed_same (a.at j k (degree g) h) (b.at j k (degree g) h)

pub places_settled : {t u : List ℕ} → Places t → Places u → t ≡ u
places_settled {t} {u} a b =
    ext_get_or 0 t u (a.long ∙ sym b.long) λ i l.
    let k : i < 24576 = rw a.long at l in
    let f = i / 2048 in
    let s = i % 2048 in
    let row : f < 12 = omega arith in
    let whole : f * 2048 + s ≡ i = omega arith in
    let c = highest_carried f row in
    rw whole at
    (place_same (family_long f row) (family_code f row).most c.1 c.2 (get_or t (f * 2048 + s) 0) (get_or u (f * 2048 + s) 0) (a.at f row s (omega arith))
    (b.at f row s (omega arith)))
