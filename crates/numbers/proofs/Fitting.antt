-- What fits k and n cells, by the digits that stand past them; what the functions on a code that passed its checks cite.
-- Assumes nothing.
use mathlib.Core.Path.{◌≡◌, refl, ◌∙◌}
use mathlib.Core.List.{[], ◌∷◌, ◌++◌}
use Prim.Native.Nat.{ℕ, ◌+◌, ◌-◌, ◌*◌, ◌/◌, ◌%◌, ◌^◌, ◌≤◌, ◌<◌}
use native.Mathlib.Nat.{lt_of_lt_of_le, div-eq_of_lt, mul_assoc, pow-suc}
use native.Mathlib.Numerals.{add-one}
use native.Mathlib.Omega.{arith}
use lib.Pow.{pow_mono, shl_exact}
use Rattle.poly.specs.Poly.{sum, times, Degree, Divided, Remainder}
use Rattle.poly.proofs.Times.{times_comm}
use Rattle.poly.proofs.Degree.{degree_unique, high_zero}
use Rattle.poly.proofs.Division.{remainder_of, remainder_double}
use Rattle.poly.specs.Shifts.{Ready, low}
use Rattle.poly.proofs.Shifting.{zero_ready}
use Rattle.verdict.specs.Verdict.{Passed, Where}
use Rattle.verdict.proofs.Verdict.{passed_first, passed_last}
use Rattle.codes.specs.Code.{code_checks}
use Rattle.codes.specs.Coding.{Systematic, Product}
use Rattle.codes.specs.Calls.{MessageFits, message_check}
use Rattle.codes.proofs.Checking.{Code, code_of, generator_pos, generator_lt}
use Rattle.codes.proofs.Calls.{message_fits, message_below}
use Rattle.codes.proofs.Coding.{product_word}

module _ {n g r : ℕ} (code : Code n g) (d : Degree g r) where
  same : r ≡ code.generator.r
  same = degree_unique d code.generator.degree

  pub code_room : r < n
  code_room = omega (arith, same, code.generator.room)

  pub code_few : r ≤ 32
  code_few = omega (arith, same, code.generator.most)

  -- a message of k = n - r cells
  pub message_small : {m : ℕ} → m / 2 ^ (n - r) ≡ 0 → MessageFits n g m
  message_small {m} e = message_fits code d (high_zero m (n - r) e)

  pub message_large : {m : ℕ} → (m / 2 ^ (n - r) ≡ 0 → ⊥) → MessageFits n g m → ⊥
  message_large f h = f (div-eq_of_lt (message_below code d h))

  -- x^r times it has n digits
  pub message_shl : {m : ℕ} → MessageFits n g m → (m * 2 ^ r) % 2 ^ 64 ≡ m * 2 ^ r
  message_shl f = shl_exact (n - r) r 64 (message_below code d f) (omega (arith, code_room, code.most))

  -- the systematic word
  pub systematic_made : {m q s : ℕ} → Where ((0 < g) × (g < 2 ^ 33)) (Divided (m * 2 ^ r) g q s) ((q ≡ 0) × (s ≡ 0)) → Systematic g m (sum (m * 2 ^ r) s)
  systematic_made {m} {q} {s} v =
      let h = code.generator in
      record { r = r; degree = d; rest = s; remainder = remainder_of (v.holds (generator_pos h, generator_lt h)); word = refl }

-- the product word, with the factors the other way round
pub product_made : {n g d c : ℕ} → Code n g → MessageFits n g d → Where (times g d < 2 ^ 64) (c ≡ times g d) (c ≡ 0) → Product g d c
product_made {n} {g} {d} code f w =
    let small : times d g < 2 ^ 64 = lt_of_lt_of_le (product_word f).below (pow_mono {i = n} {j = 64} (omega (arith, code.most))) in
    w.holds (rw (times_comm g d) small) ∙ times_comm g d

-- the remainder and quotient of a number by the generator
pub code_divided : {n g p q s : ℕ} → Code n g → Where ((0 < g) × (g < 2 ^ 33)) (Divided p g q s) ((q ≡ 0) × (s ≡ 0)) → Divided p g q s
code_divided code v = let h = code.generator in v.holds (generator_pos h, generator_lt h)

-- ---- what the checks of a message say

module _ {n g d : ℕ} (p : Passed (code_checks n g ++ (message_check n g d ∷ []))) where
  pub passed_code : Code n g
  passed_code = code_of (passed_first (code_checks n g) (message_check n g d ∷ []) p)

  pub passed_message : MessageFits n g d
  passed_message = (passed_last (code_checks n g) (message_check n g d ∷ []) p).0

-- ---- x^i times e

pub shift_next : {g r p q : ℕ} (e i : ℕ) → Degree g r → r ≤ 32 → Remainder (e * 2 ^ i) g p → Where (Ready r g p 0) (q ≡ low r g p 0) (q ≡ 0)
    → Remainder (e * 2 ^ (i + 1)) g q
shift_next e i h l v w =
    rw (w.holds (zero_ready h l v), add-one i, pow-suc 2 i, ← (mul_assoc e (2 ^ i) 2)) (remainder_double h v)
