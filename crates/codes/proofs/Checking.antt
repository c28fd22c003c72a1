-- What the functions of the checks cite: what follows from the checks, and what they compute.
-- Assumes nothing.
use mathlib.Core.Path.{◌≡◌, refl, subst}
use mathlib.Core.Bool.{Bool}
use mathlib.Core.List.{List, ◌++◌}
use Prim.Native.Nat.{ℕ, ◌+◌, ◌-◌, ◌*◌, ◌%◌, ◌^◌, ◌≤◌, ◌<◌}
use native.Mathlib.Decide.{ℕ_discrete}
use native.Mathlib.Nat.{one-mul, mod-eq_of_lt, lt_of_lt_of_le}
use native.Mathlib.Omega.{arith}
use lib.ListN.{length, get_or, set}
use lib.Pow.{pow-lt, pow_mono}
use lib.Seq.{get_or-set_same, get_or-set_other}
use Rattle.poly.specs.Poly.{sum, Degree, Divided, Divides}
use Rattle.poly.proofs.Degree.{degree_pos, degree_unique}
use mathlib.Core.Logic.{∥∥₁_elim}
use Rattle.std.proofs.Props.{props}
use Rattle.poly.proofs.Computed.{divide}
use Rattle.poly.proofs.Division.{remainder_of, divides_remainder, remainder_divides, remainder_unique, divide_remainder, divide_multiple}
use Rattle.verdict.specs.Verdict.{Check, Verdict, Passed, Tells, Where}
use Rattle.verdict.proofs.Verdict.{verdict_settled, verdict_passed, tells_settled, verdict_on, passed_on, passed_first, passed_last}
use Rattle.codes.specs.Code.{Generator, MessageLength, code_checks}
use Rattle.codes.specs.Mending.{Pattern, Carries, carry_checks, rule_checks}
use Rattle.codes.specs.Row.{Given}

-- ---- what the checks say together

-- Checks 1 to 3 pass.
pub record Code (n g : ℕ) : Type 0 where
  pub least : 2 ≤ n
  pub most : n ≤ 63
  pub generator : Generator n g
  pub divides : Divides g (sum (2 ^ n) 1)

-- Checks 1 to 5 pass.
pub record Allowed (n g rule : ℕ) : Type 0 where
  pub code : Code n g
  pub known : rule ≤ 2
  pub carried : Carries (Pattern n rule) g

pub code_of : {n g : ℕ} → Passed (code_checks n g) → Code n g
code_of p = record { least = p.0.0; most = p.0.1; generator = p.1.0; divides = p.1.1.0 }

pub of_code : {n g : ℕ} → Code n g → Passed (code_checks n g)
of_code c = ((c.least, c.most), (c.generator, (c.divides, tt)))

pub allowed_of : {n g rule : ℕ} → Passed (rule_checks n g rule) → Allowed n g rule
allowed_of {n} {g} {rule} p =
    let q = passed_last (code_checks n g) (carry_checks n g rule) p in
    record { code = code_of (passed_first (code_checks n g) (carry_checks n g rule) p); known = q.0; carried = q.1.0 }

pub of_allowed : {n g rule : ℕ} → Allowed n g rule → Passed (rule_checks n g rule)
of_allowed {n} {g} {rule} a = passed_on (code_checks n g) (carry_checks n g rule) (of_code a.code) (a.known, (a.carried, tt))

-- a code whose checks gave 0
pub code_zero : {n g m : ℕ} → Verdict (code_checks n g) m → m ≡ 0 → Code n g
code_zero {n} {g} v e = code_of (verdict_passed (code_checks n g) tt v e)

pub allowed_zero : {n g rule m : ℕ} → Verdict (rule_checks n g rule) m → m ≡ 0 → Allowed n g rule
allowed_zero {n} {g} {rule} v e = allowed_of (verdict_passed (rule_checks n g rule) tt v e)

-- after the checks of a code those that follow decide
pub code_decides : {n g m : ℕ} (last : List Check) → Verdict (code_checks n g) 0 → Verdict last m → Verdict (code_checks n g ++ last) m
code_decides {n} {g} {m} last v = verdict_on (code_checks n g) last m (of_code (code_zero v refl))

-- ---- a generator

module _ {n g : ℕ} (h : Generator n g) where
  pub generator_pos : 0 < g
  generator_pos = degree_pos h.degree

  pub generator_lt : g < 2 ^ 33
  generator_lt = lt_of_lt_of_le h.degree.below (pow_mono {j = 33} (omega (arith, h.most)))

  -- its degree as it is found
  pub generator_degree : {r : ℕ} → Where (0 < g) (Degree g r) (r ≡ 0) → Degree g r
  generator_degree w = w.holds generator_pos

  pub generator_r : {r : ℕ} → Where (0 < g) (Degree g r) (r ≡ 0) → r ≡ h.r
  generator_r w = degree_unique (generator_degree w) h.degree

pub generator_given : {n g r : ℕ} → 2 ≤ n → n ≤ 63 → Generator n g → Degree g r → Given n g r
generator_given l m h d = rw (degree_unique d h.degree) (record { least = l; most = m; degree = h.degree; one = h.least; few = h.most })

-- ---- a message has k = n - r cells

pub message_room : {n g r k : ℕ} → Degree g r → r ≤ n → k ≡ n - r → MessageLength n g k
message_room {r = r} h l e = record { r = r; degree = h; whole = omega (arith, l, e) }

pub message_length : {n g r k : ℕ} → Degree g r → MessageLength n g k → k ≡ n - r
message_length h m = omega (arith, m.whole, degree_unique m.degree h)

-- ---- what is computed

-- x^n + 1
pub power_one : (n : ℕ) → n ≤ 63 → sum ((1 * 2 ^ n) % 2 ^ 64) 1 ≡ sum (2 ^ n) 1
power_one n l = rw (one-mul, mod-eq_of_lt (pow-lt (let h : n < 64 = omega arith in h)))

-- x^n + 1 divided by a generator
pub whole_divided : {n g q s : ℕ} {Else : Type 0} → n ≤ 63 → Generator n g
    → Where ((0 < g) × (g < 2 ^ 33)) (Divided (sum ((1 * 2 ^ n) % 2 ^ 64) 1) g q s) Else → Divided (sum (2 ^ n) 1) g q s
whole_divided {n} {g} {q} {s} l h w = subst (λ (p : ℕ). Divided p g q s) (power_one n l) (w.holds (generator_pos h, generator_lt h))

-- a code that is merely known to pass passes: its numbers can be found again
module _ {n g r : ℕ} (v : Given n g r) (t : ∥ Passed (code_checks n g) ∥₁) where
  pub checked : Code n g
  checked = record {
    least = v.least;
    most = v.most;
    generator = record {
      odd = ∥∥₁_elim t (Prim.hlevel props) (λ p. (code_of p).generator.odd);
      r = r;
      degree = v.degree;
      least = v.one;
      most = v.few;
      room = ∥∥₁_elim t (Prim.hlevel props) (λ p. rw (degree_unique v.degree (code_of p).generator.degree) (code_of p).generator.room);
    };
    divides = divide_multiple (sum (2 ^ n) 1) (degree_pos v.degree) left;
  }
    where
      left : (divide (sum (2 ^ n) 1) g).remainder ≡ 0
      left =
          ∥∥₁_elim t (Prim.hlevel props)
          (λ p. remainder_unique (divide_remainder (sum (2 ^ n) 1) (degree_pos v.degree)) (remainder_divides (degree_pos v.degree) (code_of p).divides))

-- g divides exactly what leaves nothing
module _ {p g q s : ℕ} (v : Divided p g q s) where
  pub nothing_left : s ≡ 0 → Divides g p
  nothing_left e = divides_remainder (rw e at (remainder_of v))

  pub left_nothing : 0 < g → Divides g p → s ≡ 0
  left_nothing h d = remainder_unique (remainder_of v) (remainder_divides h d)

-- a list filled from the front: what holds of each element passed, and of the next
pub set_more : (P : ℕ → ℕ → Type 0) (t : List ℕ) (k v : ℕ) → k < length t → ((i : ℕ) → i < k → P i (get_or t i 0)) → P k v
    → (i : ℕ) → i < k + 1 → P i (get_or (set t k v) i 0)
set_more P t k v b h r i l = go (ℕ_discrete i k)
  where
    go : Dec (i ≡ k) → P i (get_or (set t k v) i 0)
    go (yes e) = rw (e, get_or-set_same t k v 0 b) r
    go (no f) = rw (get_or-set_other t k i v 0 f) (h i (omega (arith, f)))

-- ---- two results of one call

pub check_code_settled : {n g m m' : ℕ} → Verdict (code_checks n g) m → Verdict (code_checks n g) m' → m ≡ m'
check_code_settled {n} {g} = verdict_settled (code_checks n g)

pub check_rule_settled : {n g rule m m' : ℕ} → Verdict (rule_checks n g rule) m → Verdict (rule_checks n g rule) m' → m ≡ m'
check_rule_settled {n} {g} {rule} = verdict_settled (rule_checks n g rule)

pub comes_first_settled : {m : ℕ} {b c : Bool} → Tells ((0 < m) × (m < 6)) b → Tells ((0 < m) × (m < 6)) c → b ≡ c
comes_first_settled = tells_settled
