-- The plate families: all that is claimed of them is one test, computed once over the whole table, and carried to each family by a lemma.
-- Assumes nothing.
use mathlib.Core.Path.{◌≡◌, refl, sym, ap, ◌∙◌}
use mathlib.Core.Bool.{Bool, true, false, not, cond, ◌&&◌}
use mathlib.Core.List.{List, [], ◌∷◌}
use Prim.Native.Nat.{ℕ, zero, suc, ◌+◌, ◌-◌, ◌%◌, ◌^◌, ◌≤◌, ◌<◌}
use native.Mathlib.Nat.{not-suc-le-zero}
use native.Mathlib.Numerals.{add-one}
use native.Mathlib.Omega.{arith}
use lib.Dec.{T, leb, ltb, eqb, leb→le, ltb→lt, eqb→eq}
use lib.ListN.{get_or}
use Rattle.poly.specs.Poly.{sum, Degree}
use Rattle.poly.proofs.Computed.{degree, divide}
use Rattle.poly.proofs.Degree.{degree_of_lem, degree_unique, power_lt}
use Rattle.poly.proofs.Division.{divide_multiple}
use Rattle.verdict.specs.Verdict.{Passed, Tells}
use Rattle.verdict.proofs.Bool.{is_true, and_left, and_right, each_below, each_at}
use Rattle.codes.specs.Mending.{Pattern, Carries, rule_checks}
use Rattle.codes.proofs.Checking.{Code, allowed_of, of_allowed, generator_pos}
use Rattle.families.specs.Families.{lengths, generators, pairs, numbered, length_of, generator_of, pairs_of, Shown}
use Rattle.families.specs.declared.Family.{Family}
use Rattle.families.proofs.Carrying.{carries, carries_tells}

-- ---- the tests of one family

-- all of a list of tests
abbrev every : List Bool → Bool
every [] = true
every (t ∷ ts) = t && every ts

every_at : (ts : List Bool) → T (every ts) → (i : ℕ) → T (get_or ts i true)
every_at [] p i = tt
every_at (t ∷ ts) p zero = and_left t (every ts) p
every_at (t ∷ ts) p (suc i) = every_at ts (and_right t (every ts) p) i

-- two tests answer the same
abbrev same : Bool → Bool → Bool
same a b = cond a b (not b)

-- n from 2 to 63; g odd, of a degree from 1 to 32 and below n; it divides x^n + 1; rules 0 and 1 are carried, and rule 2 as b says
unfoldable tests : ℕ → ℕ → Bool → List Bool
unfolding degree divide carries
tests n g b =
    leb 2 n ∷ leb n 63 ∷ eqb (g % 2) 1 ∷ leb 1 (degree g) ∷ leb (degree g) 32 ∷ ltb (degree g) n
    ∷ eqb (divide (sum (2 ^ n) 1) g).remainder 0 ∷ carries n g 0 ∷ carries n g 1 ∷ same (carries n g 2) b ∷ []

-- ---- what they say

module _ (n g : ℕ) (b : Bool) (t : T (every (tests n g b))) where
  passes : (i : ℕ) → T (get_or (tests n g b) i true)
  passes = every_at (tests n g b) t

  least : 2 ≤ n
  unfolding tests
  least = leb→le 2 n (passes 0)

  pos : 0 < g
  unfolding tests
  pos = let odd = eqb→eq (g % 2) 1 (passes 2) in omega arith

  code : Code n g
  unfolding tests
  code = record {
    least = least;
    most = leb→le n 63 (passes 1);
    generator = record {
      odd = eqb→eq (g % 2) 1 (passes 2);
      r = degree g;
      degree = degree_of_lem g pos;
      least = leb→le 1 (degree g) (passes 3);
      most = leb→le (degree g) 32 (passes 4);
      room = ltb→lt (degree g) n (passes 5);
    };
    divides = divide_multiple (sum (2 ^ n) 1) pos (eqb→eq (divide (sum (2 ^ n) 1) g).remainder 0 (passes 6));
  }

  tells : (rule : ℕ) → Tells (Carries (Pattern n rule) g) (carries n g rule)
  tells rule = carries_tells rule least pos

  carried : (rule : ℕ) → T (carries n g rule) → Carries (Pattern n rule) g
  carried rule s = (tells rule).yes (is_true (carries n g rule) s)

  pairs_told : Tells (Carries (Pattern n 2) g) b
  unfolding tests
  pairs_told = rw (go (carries n g 2) b (passes 9)) at (tells 2)
    where
      go : (a b : Bool) → T (same a b) → a ≡ b
      go true true u = refl
      go true false u = absurd u
      go false true u = absurd u
      go false false u = refl

-- ---- the whole table

abbrev right : ℕ → Bool
right i = every (tests (get_or lengths i 0) (get_or generators i 0) (get_or pairs i false))

all_right : T (each_below 12 right)
unfolding tests
all_right = tt

-- what is claimed of the table, at each family
pub family_shown : (i : ℕ) → i < 12 → Shown i
unfolding tests
family_shown i l =
    let n = get_or lengths i 0 in
    let g = get_or generators i 0 in
    let b = get_or pairs i false in
    let t = each_at right 12 all_right i l in
    let c = code n g b t in
    record {
      none = rule_passed 0 c (omega arith) (carried n g b t 0 (passes n g b t 7));
      singles = rule_passed 1 c (omega arith) (carried n g b t 1 (passes n g b t 8));
      pairs = pairs_told n g b t;
    }
  where
    rule_passed : {n g : ℕ} (rule : ℕ) → Code n g → rule ≤ 2 → Carries (Pattern n rule) g → Passed (rule_checks n g rule)
    rule_passed rule c k s = of_allowed (record { code = c; known = k; carried = s })

-- ---- what follows for each family

module _ (i : ℕ) (l : i < 12) where
  pub family_code : Code (get_or lengths i 0) (get_or generators i 0)
  family_code = (allowed_of (family_shown i l).none).code

  pub family_pos : 0 < get_or generators i 0
  family_pos = generator_pos family_code.generator

  -- the two ends are no neighbours otherwise
  pub family_long : 2 < get_or lengths i 0
  family_long = ltb→lt 2 (get_or lengths i 0) (each_at (λ k. ltb 2 (get_or lengths k 0)) 12 tt i l)

  -- no degree is above 11
  pub family_small : get_or generators i 0 < 2 ^ 12
  family_small = ltb→lt (get_or generators i 0) (2 ^ 12) (each_at (λ k. ltb (get_or generators k 0) (2 ^ 12)) 12 tt i l)

  module _ {r : ℕ} (h : Degree (get_or generators i 0) r) where
    pub family_degree : (1 ≤ r) × (r ≤ 11) × (r < get_or lengths i 0)
    family_degree =
        let g = family_code.generator in
        let e : r ≡ g.r = degree_unique h g.degree in
        let few : r < 12 = power_lt (get_or generators i 0) r 12 h.least family_small in
        (omega (arith, g.least), omega arith, omega (arith, g.room))

-- ---- numbered from 1

module _ {A : Type 0} (none : A) (row : List A) where
  -- from 1 on, what is in the row
  pub within : (f : ℕ) → 1 ≤ f → numbered none row f ≡ get_or row (f - 1) none
  within zero l = absurd (not-suc-le-zero l)
  within (suc i) l = ap (λ (k : ℕ). get_or row k none) (let e : i ≡ suc i - 1 = omega arith in e)

  pub entry : (i : ℕ) → numbered none row (i + 1) ≡ get_or row i none
  entry i = ap (numbered none row) (add-one i)

-- two results of one call
pub family_of_settled : (f : ℕ) {x y : Family} → (x.n ≡ length_of f) × (x.g ≡ generator_of f) × (x.pairs ≡ pairs_of f)
    → (y.n ≡ length_of f) × (y.g ≡ generator_of f) × (y.pairs ≡ pairs_of f) → x ≡ y
family_of_settled f {x} {y} a b = rw (a.0 ∙ sym b.0, a.1 ∙ sym b.1, a.2 ∙ sym b.2)

pub all_lengths_settled : {a b : List ℕ} → a ≡ lengths → b ≡ lengths → a ≡ b
all_lengths_settled a b = a ∙ sym b

pub all_generators_settled : {a b : List ℕ} → a ≡ generators → b ≡ generators → a ≡ b
all_generators_settled a b = a ∙ sym b
