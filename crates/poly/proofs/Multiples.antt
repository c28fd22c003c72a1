-- The multiples of a polynomial g: an ideal, in which x can be cancelled where g is odd, and each remainder marks one class.
-- Assumes nothing.
use mathlib.Core.Path.{◌≡◌, sym, ap, ap₂, ◌∙◌}
use mathlib.Core.Logic.{◌⊎◌, inl, inr}
use Prim.Native.Nat.{ℕ, zero, suc, ◌+◌, ◌*◌, ◌/◌, ◌%◌, ◌^◌, ◌<◌}
use native.Mathlib.Nat.{zero-mul, one-mul, mul-one, mul_assoc, mul-mod_left, pow-suc, mod-lt, eq-zero-or-pos, lt_of_lt_of_le}
use native.Mathlib.Omega.{arith}
use lib.Dec.{lit<}
use lib.Pow.{pow_pos, pow_mono}
use Rattle.poly.specs.Poly.{sum, times, Degree, Remainder, Divides}
use Rattle.poly.proofs.Computed.{degree}
use Rattle.poly.proofs.Sum.{sum_comm, sum_self, sum-zero_eq, sum_shift, sum_shifted, sum-div, sum-mod, on_digit}
use Rattle.poly.proofs.Times.{times_step, times-sum, times-sum_left, times_double_left, times_power, times_one, times_assoc}
use Rattle.poly.proofs.Degree.{degree-times, degree_of_lem, power_lt, high_zero}
use Rattle.poly.proofs.Division.{lower, lower_lt, lower_zero, lower_multiple, divides_lower, remainder_lower, remainder_differ, remainder_same}

-- ---- an ideal

-- a sum of multiples is one
pub divides_sum : {g p q : ℕ} → Divides g p → Divides g q → Divides g (sum p q)
divides_sum {g} h k = record {
  factor = sum h.factor k.factor;
  product = ap₂ sum h.product k.product ∙ sym (times-sum_left h.factor k.factor g);
}

-- and a product with anything
pub divides_times : {g p : ℕ} (r : ℕ) → Divides g p → Divides g (times r p)
divides_times {g} r h =
    record { factor = times r h.factor; product = ap (times r) h.product ∙ sym (times_assoc r h.factor g) }

-- ---- only the remainder of a factor counts

-- ---- x is no divisor of zero among the remainders by an odd g

-- an odd factor keeps the lowest digit
pub times_odd : (q g : ℕ) → g % 2 ≡ 1 → times q g % 2 ≡ q % 2
times_odd q g h =
    rw (times_step, sum-mod (times (q / 2) g * 2) (q % 2 * g) 1, mul-mod_left)
    (on_digit (λ (c : ℕ). c * g % 2 ≡ c) (simp zero-mul) (simp (one-mul, h)) (q % 2) (mod-lt q (lit< tt)))

-- where x p is a multiple of g, p is
pub divides_half : {g : ℕ} (p : ℕ) → g % 2 ≡ 1 → Divides g (p * 2) → Divides g p
divides_half {g} p h m =
    let f = m.factor in
    let even : f % 2 ≡ 0 = sym (times_odd f g h) ∙ ap (λ (x : ℕ). x % 2) (sym m.product) ∙ mul-mod_left p 2 in
    let halved : f ≡ f / 2 * 2 = omega arith in
    let twice : p * 2 ≡ times (f / 2) g * 2 = m.product ∙ ap (λ (x : ℕ). times x g) halved ∙ times_double_left (f / 2) g in
    record { factor = f / 2; product = omega arith }

-- where x^k p is a multiple of g, p is
pub divides_unshift : {g : ℕ} (k p : ℕ) → g % 2 ≡ 1 → Divides g (p * 2 ^ k) → Divides g p
divides_unshift zero p h m = rw mul-one at m
divides_unshift (suc k) p h m = divides_unshift k p h (divides_half (p * 2 ^ k) h (rw (pow-suc, ← (mul_assoc p (2 ^ k) 2)) at m))

-- ---- a multiple is known by its quotient, and by what stands above g's degree

-- a factor other than 0 can be cancelled
pub times_cancel : {g : ℕ} (p q : ℕ) → 0 < g → times p g ≡ times q g → p ≡ q
times_cancel {g} p q h e =
    sum-zero_eq (lower_multiple {g = g} (sum p q) (rw (times-sum_left, e, sum_self) (lower_zero h)))

-- two multiples that agree from g's degree on are equal: a code word is known by its message
pub divides_unique : {g d : ℕ} (p q : ℕ) → Degree g d → Divides g p → Divides g q → p / 2 ^ d ≡ q / 2 ^ d → p ≡ q
divides_unique {g} {d} p q h m n e =
    sum-zero_eq (divides_lower (divides_sum m n) (lower h (high_zero (sum p q) d (rw (sum-div p q d, e, sum_self)))))

-- the quotient of a number of k + d digits has k digits
pub factor_lt : {g d : ℕ} (k q : ℕ) → Degree g d → times q g < 2 ^ (k + d) → q < 2 ^ k
factor_lt {g} {d} k q h l = go (eq-zero-or-pos q)
  where
    go : (q ≡ 0) ⊎ (0 < q) → q < 2 ^ k
    go (inl e) = rw e (pow_pos k)
    go (inr hq) =
        let t = degree_of_lem q hq in
        let fits : degree q + d < k + d = power_lt (times q g) (degree q + d) (k + d) (degree-times t h).least l in
        lt_of_lt_of_le t.below (pow_mono (omega arith))

-- x^d p, with its remainder in the d digits below it, is a multiple: the systematic code word
pub divides_systematic : {g d s : ℕ} (p : ℕ) → Degree g d → Remainder (p * 2 ^ d) g s → Divides g (p * 2 ^ d + s)
divides_systematic {g} {d} {s} p h r =
    let l = r.divided.lower in rw (sum_shifted p d s (lower_lt h l)) at (remainder_differ r (remainder_lower l))

-- ---- x^n + 1 a multiple of g: remainders go round after n shifts

-- x^n p and p differ by a multiple
pub divides_round : {g : ℕ} (n p : ℕ) → Divides g (sum (2 ^ n) 1) → Divides g (sum (p * 2 ^ n) p)
divides_round n p m = rw (times-sum, times_power, times_one) at (divides_times p m)

-- so they have one remainder
pub remainder_round : {g s : ℕ} (n p : ℕ) → Divides g (sum (2 ^ n) 1) → Remainder p g s → Remainder (p * 2 ^ n) g s
remainder_round n p m h = remainder_same (p * 2 ^ n) (rw sum_comm (divides_round n p m)) h

-- where shifted polynomials leave the same remainder by an odd g, so do the polynomials
pub remainder_unshift : {g s : ℕ} (k p q : ℕ) → g % 2 ≡ 1 → Remainder (p * 2 ^ k) g s → Remainder (q * 2 ^ k) g s → Divides g (sum p q)
remainder_unshift k p q h a b = divides_unshift k (sum p q) h (rw sum_shift at (remainder_differ a b))
