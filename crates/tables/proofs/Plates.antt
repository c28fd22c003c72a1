-- What a plate's facts say of its generator.
-- Assumes nothing.
use Rattle.std.proofs.Common.{◌≡◌, ◌+◌, ◌*◌, ◌≤◌, ◌<◌, ℕ, List, get_or, Option, None, Some, MatchOption, refl, sym, ap, ◌∙◌, arith}
use Rattle.std.proofs.Math.Nat.{mul-le-mul}
use Rattle.poly.specs.Poly.{Degree, Remainder}
use Rattle.poly.proofs.Degree.{degree_unique}
use Rattle.poly.proofs.Division.{remainder_unique}
use Rattle.codes.specs.Mending.{Pattern, Carries}
use Rattle.codes.specs.Row.{pattern_at, pattern_count}
use Rattle.families.specs.Families.{lengths, generators}
use Rattle.families.proofs.Families.{family_long}
use Rattle.tables.specs.Tables.{Packed, Place, Places, Has, highest}
use Rattle.tables.specs.declared.Plate.{Plate}
use Rattle.tables.proofs.Entering.{family_cells, family_bounds, remainder_small}
use Rattle.tables.proofs.Reading.{highest_carried, rule_carried, place_found, place_missing, packed_same}

module _ (p : Plate) where
  pub plate_generator : {f : ℕ} → p.f ≡ f → p.g ≡ get_or generators f 0
  plate_generator e = p.generator ∙ ap (λ f. get_or generators f 0) e

  pub plate_few : p.r ≤ 32
  plate_few = omega (arith, (family_bounds p.family).1)

  pub plate_degree : Degree p.g p.r
  plate_degree = rw p.generator p.family.degree

  pub plate_long : 2 < p.n
  plate_long = rw p.family.length (family_long p.f p.family.row)

  pub plate_highest : (1 ≤ highest p.f) × (highest p.f ≤ 2)
  plate_highest = let h = highest_carried p.f p.family.row in (h.0, h.1)

  -- a remainder is below 2048
  pub plate_small : {q s : ℕ} → Remainder q p.g s → s < 2048
  plate_small v = remainder_small p.family (rw p.generator at v)

-- ---- where the pattern table is read

module _ (p : Plate) {rule : ℕ} (l : rule ≤ p.highest) where
  pub plate_carries : Carries (Pattern p.n rule) p.g
  plate_carries = rw (p.family.length, p.generator) (rule_carried p.f rule p.family.row (rw p.carried at l))

  -- an entry of the rule is a place of the row
  pub entry_within : {k : ℕ} → k ≤ p.n * rule → k ≤ 2 * p.n
  entry_within b =
      let same : p.n ≤ p.n = omega arith in
      let known : rule ≤ 2 = omega (arith, p.carried, (plate_highest p).1) in
      omega (arith, mul-le-mul same known)

  module _ {t : List ℕ} (filled : Places t) {s : ℕ} (small : s < 2048) where
    here : Place p.n p.g (pattern_count p.n p.highest) s (get_or t (p.f * 2048 + s) 0)
    here = rw (p.carried, p.generator, p.family.length) (filled.at p.f p.family.row s small)

    top : (p.highest ≤ 2) × Carries (Pattern p.n p.highest) p.g
    top = let k = highest_carried p.f p.family.row in rw (p.carried, p.generator, p.family.length) (k.1, k.2)

    pub place_has : get_or t (p.f * 2048 + s) 0 ≤ p.n * rule → Has p.n p.g p.highest rule s (pattern_at p.n (get_or t (p.f * 2048 + s) 0))
    place_has b = let k = place_found (plate_long p) (family_cells p.family).1 top.0 top.1 rule l here b in (l, k.0, k.1)

    pub place_none : p.n * rule < get_or t (p.f * 2048 + s) 0 → (e : ℕ) → Has p.n p.g p.highest rule s e → ⊥
    place_none b e h = place_missing (plate_long p) (family_cells p.family).1 top.0 top.1 rule l here b e h.1 h.2

-- ---- what is settled

-- two plates of one family, and two results of one division
pub plate_settled : (p q : Plate) → p.f ≡ q.f → (p.n ≡ q.n) × (p.g ≡ q.g) × (p.r ≡ q.r) × (p.highest ≡ q.highest)
plate_settled p q e =
    let same : p.g ≡ q.g = plate_generator p e ∙ sym q.generator in (
      p.family.length ∙ ap (λ f. get_or lengths f 0) e ∙ sym q.family.length,
      same,
      degree_unique (plate_degree p) (rw same (plate_degree q)),
      p.carried ∙ ap highest e ∙ sym q.carried,
    )

pub divide_settled : (p : Plate) {word d e : ℕ} → Packed p.g p.r word d → Packed p.g p.r word e → d ≡ e
divide_settled p = packed_same

pub remainder_settled : (p : Plate) {word d e : ℕ} → Remainder word p.g d → Remainder word p.g e → d ≡ e
remainder_settled p = remainder_unique

pub find_settled : (p : Plate) (rule s : ℕ) {a b : Option ℕ}
    → MatchOption a ((e : ℕ) → Has p.n p.g p.highest rule s e → ⊥) (Has p.n p.g p.highest rule s)
    → MatchOption b ((e : ℕ) → Has p.n p.g p.highest rule s e → ⊥) (Has p.n p.g p.highest rule s) → a ≡ b
find_settled p rule s {a = None} {b = None} u v = refl
find_settled p rule s {a = None} {b = Some e} u v = absurd (u e v)
find_settled p rule s {a = Some d} {b = None} u v = absurd (v d u)
find_settled p rule s {a = Some d} {b = Some e} u v = ap Some (plate_carries p u.0 d e s u.1 v.1 u.2 v.2)
