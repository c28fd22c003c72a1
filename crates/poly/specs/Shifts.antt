-- The shifts of a register on numbers: one of r stages is a number below 2 ^ r. The proofs show that these are the shifts of `Register`. Assumes nothing.
use Rattle.std.specs.Prelude.{ℕ, ◌+◌, ◌*◌, ◌/◌, ◌^◌, ◌≤◌, ◌<◌}
use Rattle.poly.specs.Poly.{sum, Degree}

-- t less g, where t has reached g's degree r. What stands at digit r of t, 0 or 1, is the feedback, and the next digit of the quotient.
unfoldable pub reduce : ℕ → ℕ → ℕ → ℕ
reduce r g t = sum t (t / 2 ^ r * g)

-- One shift of the register s by g of degree r: input c at the low side, and at the high side.
abbrev pub low : ℕ → ℕ → ℕ → ℕ → ℕ
low r g s c = reduce r g (s * 2 + c)

abbrev pub high : ℕ → ℕ → ℕ → ℕ → ℕ
high r g s c = reduce r g (sum (s * 2) (c * 2 ^ r))

-- A register that can be shifted: g of degree r up to 32, s below 2 ^ r and an input of 0 or 1.
pub record Ready (r g s c : ℕ) : Type 0 where
  pub degree : Degree g r
  pub most : r ≤ 32
  pub register : s < 2 ^ r
  pub input : c < 2
