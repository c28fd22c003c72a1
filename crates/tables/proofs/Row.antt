-- The pattern at a place of the row, and how many cells a pattern has.
-- Assumes nothing.
use mathlib.Core.Path.{◌≡◌, sym, ap, ◌∙◌}
use mathlib.Core.Logic.{◌⊎◌, inl, inr}
use Prim.Native.Nat.{ℕ, suc, ◌+◌, ◌-◌, ◌*◌, ◌%◌, ◌^◌, ◌≤◌, ◌<◌}
use native.Mathlib.Nat.{one-mul}
use native.Mathlib.Omega.{arith}
use lib.Count.{ones, ones_cat}
use lib.Dec.{lit<}
use lib.Pow.{pow_pos, pow-lt, shl_exact}
use Rattle.poly.specs.Poly.{sum}
use Rattle.poly.proofs.Sum.{sum_shifted}
use Rattle.poly.proofs.Coefficient.{lt_or_le}
use Rattle.codes.specs.Mending.{Pattern, none, single, pair, ends}
use Rattle.codes.specs.Row.{pattern_at}
use Rattle.codes.proofs.Row.{at_none, at_single, at_pair, at_ends}

-- 1 << j
pub power_shifted : (j : ℕ) → j ≤ 63 → 1 * 2 ^ j % 2 ^ 64 ≡ 2 ^ j
power_shifted j l = shl_exact 1 j 64 (lit< tt) (omega arith) ∙ one-mul (2 ^ j)

ones_power : (j : ℕ) → ones (2 ^ j) ≡ 1
unfolding ones
ones_power j = ap ones (let e : 2 ^ j ≡ 1 * 2 ^ j + 0 = omega arith in e) ∙ ones_cat j 1 0 (pow_pos j)

ones_two : (i j : ℕ) → i < j → ones (sum (2 ^ j) (2 ^ i)) ≡ 2
unfolding ones
ones_two i j l =
    let two : sum (2 ^ j) (2 ^ i) ≡ 1 * 2 ^ j + 2 ^ i = ap (λ (x : ℕ). sum x (2 ^ i)) (sym (one-mul (2 ^ j))) ∙ sum_shifted 1 j (2 ^ i) (pow-lt l) in
    rw (two, ones_cat j 1 (2 ^ i) (pow-lt l), ones_power i)

-- a pattern has two cells at most
pub pattern_cells : {n rule e : ℕ} → 2 ≤ n → Pattern n rule e → ones e ≤ 2
unfolding ones
pattern_cells l none = omega arith
pattern_cells l (single i b h) = rw ones_power (omega arith)
pattern_cells l (pair i b h) = rw (ones_two i (suc i) (omega arith)) (omega arith)
pattern_cells {n} l (ends h) = rw (ones_two 0 (n - 1) (omega arith)) (omega arith)

module _ (n k : ℕ) where
  pub row_none : k ≡ 0 → pattern_at n k ≡ 0
  row_none z = rw z (at_none n)

  pub row_single : 1 ≤ k → k ≤ n → pattern_at n k ≡ 2 ^ (k - 1)
  row_single least most = ap (pattern_at n) (let e : k ≡ suc (k - 1) = omega arith in e) ∙ at_single n (k - 1) (omega arith)

  pub row_pair : n < k → k < 2 * n → pattern_at n k ≡ sum (2 ^ (k - n)) (2 ^ (k - n - 1))
  row_pair past within =
      let j = k - n - 1 in
      let here : k ≡ suc (n + j) = omega arith in
      let up : suc j ≡ k - n = omega arith in
      ap (pattern_at n) here ∙ at_pair n j (omega arith) ∙ ap (λ (x : ℕ). sum (2 ^ x) (2 ^ j)) up

  pub row_ends : k ≡ 2 * n → 2 ≤ n → pattern_at n k ≡ sum (2 ^ (n - 1)) 1
  row_ends last two = ap (pattern_at n) (let e : k ≡ n + n = omega arith in e) ∙ at_ends n (omega arith)

  -- ---- how many cells it has

  pub none_cells : k ≡ 0 → 0 ≡ ones (pattern_at n k)
  unfolding ones
  none_cells z = rw (row_none z)

  pub single_cells : 1 ≤ k → k ≤ n → 1 ≡ ones (pattern_at n k)
  single_cells least most = rw (row_single least most, ones_power)

  pair_cells : n < k → k < 2 * n → 2 ≡ ones (pattern_at n k)
  pair_cells past within = rw (row_pair past within, ones_two (k - n - 1) (k - n) (omega arith))

  ends_cells : k ≡ 2 * n → 2 ≤ n → 2 ≡ ones (pattern_at n k)
  ends_cells last two = rw (row_ends last two, ones_two 0 (n - 1) (omega arith))

  -- a pair of neighbours, or the ends
  pub two_cells : 2 ≤ n → n < k → k ≤ 2 * n → 2 ≡ ones (pattern_at n k)
  two_cells two past most = go (lt_or_le k (2 * n))
    where
      go : (k < 2 * n) ⊎ (2 * n ≤ k) → 2 ≡ ones (pattern_at n k)
      go (inl l) = pair_cells past l
      go (inr l) = ends_cells (omega arith) two
