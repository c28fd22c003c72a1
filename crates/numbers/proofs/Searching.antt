-- The search by shifts finds each pattern: a single cell is x^i, two neighbours are x^i times 3, and the two ends are x^(n-1) times 3, as x^n leaves 1.
-- Assumes nothing.
use mathlib.Core.Path.{◌≡◌, sym, ap, ◌∙◌}
use Prim.Native.Nat.{ℕ, suc, ◌-◌, ◌*◌, ◌%◌, ◌^◌, ◌≤◌, ◌<◌}
use native.Mathlib.Nat.{one-mul, pow-suc, mul_comm}
use native.Mathlib.Omega.{arith}
use lib.Dec.{lit<}
use lib.Pow.{shl_exact}
use Rattle.poly.specs.Poly.{sum, Remainder}
use Rattle.poly.proofs.Sum.{sum_shift, sum_comm, sum_assoc, sum_left_comm, sum_self, sum-zero}
use Rattle.poly.proofs.Division.{remainder_same, remainder_unique, remainder_zero}
use Rattle.codes.specs.Mending.{Pattern, none, single, pair, ends}
use Rattle.codes.proofs.Checking.{Code, generator_pos}
use Rattle.numbers.specs.Finding.{NoShift}

-- x^i times 3
pub three_shift : (i : ℕ) → 3 * 2 ^ i ≡ sum (2 ^ suc i) (2 ^ i)
three_shift i =
    sym (ap (λ (x : ℕ). sum x (2 ^ i)) (pow-suc 2 i ∙ mul_comm (2 ^ i) 2) ∙ ap (sum (2 * 2 ^ i)) (sym (one-mul (2 ^ i))) ∙ sum_shift i 2 1)

-- the ends and x^(n-1) times 3 differ by x^n + 1
ends_differ : (n : ℕ) → 0 < n → sum (sum (2 ^ (n - 1)) 1) (3 * 2 ^ (n - 1)) ≡ sum (2 ^ n) 1
ends_differ n pos =
    let top : suc (n - 1) ≡ n = omega arith in
    let a = 2 ^ (n - 1) in
    ap (sum (sum a 1)) (three_shift (n - 1) ∙ ap (λ (x : ℕ). sum (2 ^ x) a) top)
    ∙ ap (λ (x : ℕ). sum x (sum (2 ^ n) a)) (sum_comm a 1)
    ∙ sum_assoc 1 a (sum (2 ^ n) a) ∙ ap (sum 1) (sum_left_comm a (2 ^ n) a ∙ ap (sum (2 ^ n)) (sum_self a) ∙ sum-zero (2 ^ n)) ∙ sum_comm 1 (2 ^ n)

module _ {n g : ℕ} (code : Code n g) where
  pos : 0 < n
  pos = omega (arith, code.least)

  pub ends_round : {s : ℕ} → Remainder (3 * 2 ^ (n - 1)) g s → Remainder (sum (2 ^ (n - 1)) 1) g s
  ends_round v = remainder_same (sum (2 ^ (n - 1)) 1) (rw (sum_comm (3 * 2 ^ (n - 1)), ends_differ n pos) code.divides) v

  round_ends : {s : ℕ} → Remainder (sum (2 ^ (n - 1)) 1) g s → Remainder (3 * 2 ^ (n - 1)) g s
  round_ends v = remainder_same (3 * 2 ^ (n - 1)) (rw (ends_differ n pos) code.divides) v

  -- no pattern leaves s where s is not 0 and no shift of 1, from rule 1 on, and none of 3, from rule 2 on, does
  pub no_pattern : (rule : ℕ) {s : ℕ} → (s ≡ 0 → ⊥) → (1 ≤ rule → NoShift 1 g s n) → (2 ≤ rule → NoShift 3 g s n)
      → (e : ℕ) → Pattern n rule e → Remainder e g s → ⊥
  no_pattern rule z one three e none v = z (remainder_unique v (remainder_zero (generator_pos code.generator)))
  no_pattern rule z one three e (single i l b) v = one b i l (rw (one-mul (2 ^ i)) v)
  no_pattern rule z one three e (pair i l b) v = three b i (omega arith) (rw (three_shift i) v)
  no_pattern rule z one three e (ends b) v = three b (n - 1) (omega (arith, code.least)) (round_ends v)

-- ---- the places as they are computed

pub one_shl : (i : ℕ) → i ≤ 62 → (1 * 2 ^ i) % 2 ^ 64 ≡ 2 ^ i
one_shl i l = shl_exact 1 i 64 (lit< tt) (omega arith) ∙ one-mul (2 ^ i)

pub three_shl : (i : ℕ) → i ≤ 62 → (3 * 2 ^ i) % 2 ^ 64 ≡ sum (2 ^ suc i) (2 ^ i)
three_shl i l = shl_exact 2 i 64 (lit< tt) (omega arith) ∙ three_shift i
