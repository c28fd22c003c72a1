-- The degrees of the factors add up to that of the product, so they tell whether it has at most 64 digits.
use mathlib.Core.Path.{◌≡◌, refl}
use mathlib.Core.Logic.{◌⊎◌, inl, inr}
use Prim.Native.Nat.{ℕ}
use native.Mathlib.Omega.{arith}
use borrow.Author.Rules.{rules}
use Rattle.verdict.proofs.Verdict.{where_holds, where_fails}
use Rattle.poly.specs.Poly.{times, Degree}
use Rattle.poly.proofs.Times.{times-zero_left, times_zero}
use Rattle.poly.proofs.Degree.{power_lt}
use Rattle.poly.proofs.Products.{product_large}
use Rattle.poly.proofs.times_number.Goals as goal
use Rattle.poly.proofs.times_number.Goals.{After-degree_of-e}

-- a factor 0 makes the product 0
no_factor : (p q : ℕ) → (p ≡ 0) ⊎ ((p ≡ 0 → ⊥) × (q ≡ 0)) → times p q ≡ 0
no_factor p q (inl e) = rw e (times-zero_left q)
no_factor p q (inr e) = rw e.1 (times_zero p)

pub returns-then-p-eq0 : goal.returns-then-p-eq0
returns-then-p-eq0 c = rw (no_factor c.args.p c.args.q c.then-p-eq0.either) (where_holds (omega arith) refl)

-- the degrees of the two factors
first : (c : After-degree_of-e) → Degree c.args.p c.degree_of-d.result
first c = c.degree_of-d.ensures.holds (omega arith)

second : (c : After-degree_of-e) → Degree c.args.q c.degree_of-e.result
second c = c.degree_of-e.ensures.holds (omega arith)

pub overflow_add-d : goal.overflow_add-d
overflow_add-d c =
    omega (arith, power_lt _ _ 64 (first c).least (search rules), power_lt _ _ 64 (second c).least (search rules))

pub returns-then-d-e-gt63 : goal.returns-then-d-e-gt63
returns-then-d-e-gt63 c = where_fails (product_large (first c.before) (second c.before) (omega arith)) refl
