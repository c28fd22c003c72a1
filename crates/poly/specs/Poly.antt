-- Polynomials with coefficients 0 and 1, as numbers: binary digit i is the coefficient of x^i, so x^3+x+1 is 11.
-- Sums are modulo 2, with no carry. x times p is p * 2, and x^k times p is p * 2 ^ k. Assumes nothing.
use Rattle.std.specs.Prelude.{◌≡◌, ℕ, zero, suc, ◌*◌, ◌/◌, ◌%◌, ◌^◌, ◌≤◌, ◌<◌}
use Rattle.std.specs.Int.Bits.{bit_xor}

-- The sum: the toolchain's exclusive or.
abbrev pub sum : ℕ → ℕ → ℕ
sum = bit_xor

-- The coefficient of x^i.
abbrev pub coefficient : ℕ → ℕ → ℕ
coefficient p i = p / 2 ^ i % 2

-- A number taken digit by digit, the highest first: `horner f z p` starts from z, and f takes what it has and the next digit.
-- The recursion is on a count of digits to go, for which p itself serves, and it stops when p has run out.
module _ {A : Type 0} (f : A → ℕ → A) (z : A) where
  abbrev pub hornerIn : ℕ → ℕ → A
  hornerIn zero p = z
  hornerIn (suc n) zero = z
  hornerIn (suc n) (suc p) = f (hornerIn n (suc p / 2)) (suc p % 2)

  abbrev pub horner : ℕ → A
  horner p = hornerIn p p

-- The product: for each digit c of p, x times what there is, plus c times q. So 0 times q is 0, and p times q is x times the product of p / 2
-- with q, plus p % 2 times q (`times_step`). With the sum it is a commutative ring (proofs/Times).
unfoldable pub times : ℕ → ℕ → ℕ
times p q = horner (λ (r c : ℕ). sum (r * 2) (c * q)) 0 p

-- p has degree d: its highest digit that is set is digit d. (0 has no degree.)
pub record Degree (p d : ℕ) : Type 0 where
  pub least : 2 ^ d ≤ p
  pub below : p < 2 ^ suc d

-- s is of lower degree than g, or 0.
pub record Lower (s g : ℕ) : Type 0 where
  pub r : ℕ
  pub degree : Degree g r
  pub under : s < 2 ^ r

-- The dividend p is quotient q times divisor g plus remainder s, and s is of lower degree than g.
pub record Divided (p g q s : ℕ) : Type 0 where
  pub whole : p ≡ sum (times q g) s
  pub lower : Lower s g

-- s is the remainder of p by g.
pub record Remainder (p g s : ℕ) : Type 0 where
  pub quotient : ℕ
  pub divided : Divided p g quotient s

-- g divides p: p is a multiple of g.
pub record Divides (g p : ℕ) : Type 0 where
  pub factor : ℕ
  pub product : p ≡ times factor g
