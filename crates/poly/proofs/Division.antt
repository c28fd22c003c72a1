-- The laws of division: quotient and remainder are there and are unique, sums and shifts pass through them, and a register finds them.
-- Assumes nothing.
use mathlib.Core.Path.{◌≡◌, sym, ap, ap₂, ◌∙◌}
use mathlib.Core.Logic.{◌⊎◌, inl, inr}
use Prim.Native.Nat.{ℕ, suc, ◌+◌, ◌*◌, ◌/◌, ◌%◌, ◌^◌, ◌<◌}
use native.Mathlib.Nat.{add-zero, zero-mul, one-mul, zero-div, eq-zero-or-pos, div-lt_iff_lt-mul, div-add-mod', mod-lt, mul_right_comm}
use native.Mathlib.Omega.{arith}
use lib.Arith.{bin_ind}
use lib.Dec.{lit<}
use lib.Pow.{pow_pos}
use Rattle.poly.specs.Poly.{sum, times, Degree, Lower, Divided, Remainder, Divides}
use Rattle.poly.specs.Shifts.{reduce, low, high}
use Rattle.poly.proofs.Computed.{degree, bring_down, divide}
use Rattle.poly.proofs.Sum.{sum-zero, sum_self, sum_comm, sum_back, sum_cancel, sum-zero_eq, sum_assoc, sum_double, sum-digit, sum_shift, sum_lt, sum-div, sum-laws, on_digit}
use Rattle.poly.proofs.Horner.{horner_step}
use Rattle.poly.proofs.Times.{times-zero_left, times-sum_left, times_double_left, times_by_digit}
use Rattle.poly.proofs.Degree.{power_lt, high_zero, degree_top, degree_pos, degree_unique, degree_of_lem, degree-times}

-- ---- lower degree

-- below 2 ^ r is of lower degree than g of degree r
pub lower : {g r s : ℕ} → Degree g r → s < 2 ^ r → Lower s g
lower {r = r} h l = record { r = r; degree = h; under = l }

-- and the other way round
pub lower_lt : {g r s : ℕ} → Degree g r → Lower s g → s < 2 ^ r
lower_lt {s = s} h l = rw (degree_unique l.degree h) at l.under

-- only a divisor other than 0 leaves room for a remainder
pub lower_pos : {g s : ℕ} → Lower s g → 0 < g
lower_pos l = degree_pos l.degree

-- 0 is lower than all but 0
pub lower_zero : {g : ℕ} → 0 < g → Lower 0 g
lower_zero {g} h = lower (degree_of_lem g h) (pow_pos (degree g))

-- a sum of lower ones is lower
pub lower_sum : {g s t : ℕ} → Lower s g → Lower t g → Lower (sum s t) g
lower_sum {g} {s} {t} h k =
    let d = degree_of_lem g (lower_pos h) in lower d (sum_lt (degree g) s t (lower_lt d h) (lower_lt d k))

-- the only multiple of g of lower degree is 0
pub lower_multiple : {g : ℕ} (q : ℕ) → Lower (times q g) g → q ≡ 0
lower_multiple {g} q l = go (eq-zero-or-pos q)
  where
    go : (q ≡ 0) ⊎ (0 < q) → q ≡ 0
    go (inl e) = e
    go (inr h) =
        let d = degree_of_lem g (lower_pos l) in
        omega (arith, power_lt (times q g) (degree q + degree g) (degree g) (degree-times (degree_of_lem q h) d).least (lower_lt d l))

pub divides_lower : {g p : ℕ} → Divides g p → Lower p g → p ≡ 0
divides_lower {g} {p} m l =
    m.product ∙ ap (λ (x : ℕ). times x g) (lower_multiple {g = g} m.factor (rw m.product at l)) ∙ times-zero_left g

-- ---- quotient and remainder

-- a polynomial of lower degree is its own remainder
pub divided_lower : {g s : ℕ} → Lower s g → Divided s g 0 s
divided_lower {g} {s} l = record { whole = simp times-zero_left; lower = l }

-- a multiple of g more
pub divided_more : {p g q s : ℕ} (k : ℕ) → Divided p g q s → Divided (sum (times k g) p) g (sum k q) s
divided_more {p} {g} {q} {s} k h = record { whole = ap (sum (times k g)) h.whole ∙ simp (times-sum_left, sum_assoc); lower = h.lower }

-- quotients and remainders add up
pub divided_sum : {p p' g q q' s s' : ℕ} → Divided p g q s → Divided p' g q' s' → Divided (sum p p') g (sum q q') (sum s s')
divided_sum h k = record {
  whole = ap₂ sum h.whole k.whole ∙ simp times-sum_left (simp sum-laws);
  lower = lower_sum h.lower k.lower;
}

-- 0 has quotient 0
divided_zero : {g q s : ℕ} → Divided 0 g q s → q ≡ 0
divided_zero {g} {q} {s} h = lower_multiple {g = g} q (rw (sum-zero_eq {a = times q g} (sym h.whole)) h.lower)

-- one quotient
pub quotient_unique : {p g q q' s s' : ℕ} → Divided p g q s → Divided p g q' s' → q ≡ q'
quotient_unique {p} h k = sum-zero_eq (divided_zero (rw (sum_self p) at (divided_sum h k)))

-- one remainder
pub remainder_unique : {p g s s' : ℕ} → Remainder p g s → Remainder p g s' → s ≡ s'
remainder_unique {p} {g} {s} {s'} h k =
    sum_cancel (times h.quotient g)
    (sym h.divided.whole ∙ k.divided.whole ∙ ap (λ (x : ℕ). sum (times x g) s') (sym (quotient_unique h.divided k.divided)))

-- ---- remainders

pub remainder_of : {p g q s : ℕ} → Divided p g q s → Remainder p g s
remainder_of {q = q} v = record { quotient = q; divided = v }

-- a polynomial of lower degree is its own remainder
pub remainder_lower : {g s : ℕ} → Lower s g → Remainder s g s
remainder_lower l = remainder_of (divided_lower l)

-- nothing is left of 0
pub remainder_zero : {g : ℕ} → 0 < g → Remainder 0 g 0
remainder_zero h = remainder_lower (lower_zero h)

-- remainders add up
pub remainder_sum : {p p' g s s' : ℕ} → Remainder p g s → Remainder p' g s' → Remainder (sum p p') g (sum s s')
remainder_sum h k = record { quotient = sum h.quotient k.quotient; divided = divided_sum h.divided k.divided }

-- only multiples leave nothing
pub remainder_divides : {g p : ℕ} → 0 < g → Divides g p → Remainder p g 0
remainder_divides {g} h m = record {
  quotient = m.factor;
  divided = record { whole = m.product ∙ sym (sum-zero (times m.factor g)); lower = lower_zero h };
}

pub divides_remainder : {g p : ℕ} → Remainder p g 0 → Divides g p
divides_remainder {g} h = record { factor = h.quotient; product = h.divided.whole ∙ sum-zero (times h.quotient g) }

-- what leaves the same remainder differs by a multiple, and the other way round
pub remainder_differ : {p q g s : ℕ} → Remainder p g s → Remainder q g s → Divides g (sum p q)
remainder_differ {s = s} h k = divides_remainder (rw (sum_self s) at (remainder_sum h k))

pub remainder_same : {p g s : ℕ} (q : ℕ) → Divides g (sum p q) → Remainder p g s → Remainder q g s
remainder_same {p} {g} {s} q m h =
    rw (sum_comm _ p, sum_back) at (remainder_sum (remainder_divides (lower_pos h.divided.lower) m) h)

-- ---- the register

-- what stands at the top of a number of degree at most d is one digit
pub top_digit : (d t : ℕ) → t < 2 ^ suc d → t / 2 ^ d < 2
top_digit d t h = (div-lt_iff_lt-mul (pow_pos d)).1 (omega arith)

-- `reduce` by the feedback
pub reduce-zero : (d g t : ℕ) → t / 2 ^ d ≡ 0 → reduce d g t ≡ t
unfolding reduce
reduce-zero d g t e = rw (e, zero-mul) (sum-zero t)

pub reduce_one : (d g t : ℕ) → t / 2 ^ d ≡ 1 → reduce d g t ≡ sum t g
unfolding reduce
reduce_one d g t e = rw (e, one-mul)

-- t of degree at most d, less g where it has degree d, is of lower degree than g
pub reduce_lt : {g d : ℕ} (t : ℕ) → Degree g d → t < 2 ^ suc d → reduce d g t < 2 ^ d
unfolding reduce
reduce_lt {g} {d} t h l =
    high_zero (sum t (t / 2 ^ d * g)) d
    (sum-div t (t / 2 ^ d * g) d
    ∙ on_digit (λ (c : ℕ). sum c (c * g / 2 ^ d) ≡ 0) (simp (zero-mul, zero-div)) (simp (one-mul, degree_top h)) (t / 2 ^ d) (top_digit d t l))

-- and it is the remainder, with what stood at the top as the quotient
pub divided_reduce : {g d : ℕ} (t : ℕ) → Degree g d → t < 2 ^ suc d → Divided t g (t / 2 ^ d) (reduce d g t)
unfolding reduce
divided_reduce {g} {d} t h l = record {
  whole = rw (times_by_digit, top_digit d t l) (simp sum-laws);
  lower = lower h (reduce_lt t h l);
}

-- one shift, with e put in at any place
pub divided_shift : {p g d q s : ℕ} (e : ℕ) → Degree g d → Divided p g q s → sum (s * 2) e < 2 ^ suc d
    → Divided (sum (p * 2) e) g (sum (q * 2) (sum (s * 2) e / 2 ^ d)) (reduce d g (sum (s * 2) e))
divided_shift {p} {g} {d} {q} {s} e h v l =
    let shifted : sum (times (q * 2) g) (sum (s * 2) e) ≡ sum (p * 2) e =
    rw (times_double_left, ← sum_assoc, sum_double, v.whole) in
    rw shifted at (divided_more (q * 2) (divided_reduce (sum (s * 2) e) h l))

-- low side: c follows p
pub divided_low : {p g d q s : ℕ} (c : ℕ) → c < 2 → Degree g d → Divided p g q s → Divided (p * 2 + c) g (q * 2 + (s * 2 + c) / 2 ^ d) (low d g s c)
divided_low {p} {g} {d} {q} {s} c hc h v =
    let small : s < 2 ^ d = lower_lt h v.lower in
    let fits : s * 2 + c < 2 ^ suc d = omega arith in
    rw (sum-digit s c hc, sum-digit p c hc, sum-digit q ((s * 2 + c) / 2 ^ d) (top_digit d (s * 2 + c) fits))
    at (divided_shift c h v (rw (sum-digit s c hc) fits))

pub remainder_low_lem : {p g d s : ℕ} (c : ℕ) → c < 2 → Degree g d → Remainder p g s → Remainder (p * 2 + c) g (low d g s c)
remainder_low_lem {p} {g} {d} {s} c hc h v = record { quotient = v.quotient * 2 + (s * 2 + c) / 2 ^ d; divided = divided_low c hc h v.divided }

-- one shift more, with no input
pub remainder_double : {p g d s : ℕ} → Degree g d → Remainder p g s → Remainder (p * 2) g (low d g s 0)
remainder_double {p} h v = rw (add-zero (p * 2)) at (remainder_low_lem 0 (lit< tt) h v)

-- high side: x^d times what is read leaves the register's content, and c is read next
pub remainder_high_lem : (p : ℕ) {g d s : ℕ} (c : ℕ) → c < 2 → Degree g d → Remainder (p * 2 ^ d) g s → Remainder ((p * 2 + c) * 2 ^ d) g (high d g s c)
remainder_high_lem p {g} {d} {s} c hc h v =
    let small : s < 2 ^ d = lower_lt h v.divided.lower in
    let high : s * 2 < 2 ^ suc d = omega arith in
    let low : c * 2 ^ d < 2 ^ suc d = on_digit (λ (x : ℕ). x * 2 ^ d < 2 ^ suc d) (omega (arith, pow_pos d)) (omega (arith, pow_pos d)) c hc in
    let shifted : sum (p * 2 ^ d * 2) (c * 2 ^ d) ≡ (p * 2 + c) * 2 ^ d = rw (mul_right_comm p (2 ^ d) 2, sum_shift, sum-digit p c hc) in
    record {
      quotient = sum (v.quotient * 2) (sum (s * 2) (c * 2 ^ d) / 2 ^ d);
      divided = rw shifted at (divided_shift (c * 2 ^ d) h v.divided (sum_lt (suc d) (s * 2) (c * 2 ^ d) high low));
    }

-- ---- long division finds quotient and remainder

-- the lowest digit is brought down last
divide_step : (p g : ℕ) → divide p g ≡ bring_down (degree g) g (divide (p / 2) g) (p % 2)
unfolding divide reduce
divide_step p g = horner_step (bring_down (degree g) g) (record { quotient = 0; remainder = 0 }) (simp (zero-div, zero-mul)) p

-- what `divide` gives is quotient and remainder
pub divide_divided : (p : ℕ) {g : ℕ} → 0 < g → Divided p g (divide p g).quotient (divide p g).remainder
unfolding divide
divide_divided p {g} h =
    bin_ind (λ (p : ℕ). Divided p g (divide p g).quotient (divide p g).remainder) (divided_lower (lower_zero h))
    (λ p v. rw divide_step (rw (div-add-mod' p 2) at (divided_low (p % 2) (mod-lt p (lit< tt)) (degree_of_lem g h) v))) p

pub divide_remainder : (p : ℕ) {g : ℕ} → 0 < g → Remainder p g (divide p g).remainder
divide_remainder p {g} h = record { quotient = (divide p g).quotient; divided = divide_divided p h }

pub divide_multiple : (p : ℕ) {g : ℕ} → 0 < g → (divide p g).remainder ≡ 0 → Divides g p
divide_multiple p h e = divides_remainder (rw e at (divide_remainder p h))
