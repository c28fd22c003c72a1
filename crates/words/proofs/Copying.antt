-- Cells copied to the front of others, and the tail filled behind them.
-- Assumes nothing.
use mathlib.Core.Path.{◌≡◌, refl, ap}
use mathlib.Core.List.{List, [], ◌∷◌, ◌++◌, append-nil}
use Prim.Native.Nat.{ℕ, zero, suc, ◌-◌, ◌≤◌, ◌<◌}
use native.Mathlib.Nat.{le_of_suc-le-suc, not-suc-le-zero}
use native.Mathlib.Omega.{arith}
use lib.ListN.{length, get_or, take, drop, set, length-append, length-drop, drop_of_length-le}
use lib.Seq.{take_at, take_all}
use Rattle.poly.specs.Cells.{cells}

-- one cell more
pub copy_suc : (s d : List ℕ) (j : ℕ) → j < length s → j < length d → set (take j s ++ drop j d) j (get_or s j 0) ≡ take (suc j) s ++ drop (suc j) d
copy_suc [] d j hs hd = absurd (not-suc-le-zero hs)
copy_suc (x ∷ s) [] j hs hd = absurd (not-suc-le-zero hd)
copy_suc (x ∷ s) (y ∷ d) zero hs hd = refl
copy_suc (x ∷ s) (y ∷ d) (suc j) hs hd = ap (λ (l : List ℕ). x ∷ l) (copy_suc s d j (le_of_suc-le-suc hs) (le_of_suc-le-suc hd))

-- w₀ with the message at its front, and then the part from cell k on filled with digits of c
pub tail_filled : (message w₀ w tail : List ℕ) (n k c : ℕ) → length message ≡ k → length w₀ ≡ n → k ≤ n → w ≡ message ++ drop (length message) w₀
    → tail ≡ cells (length (take (length w - k) (drop k w))) c → take k w ++ (tail ++ drop (length w - k) (drop k w)) ≡ message ++ cells (n - k) c
tail_filled message w₀ w tail n k c lm lw room ew et =
    let len : length w ≡ n = rw (ew, length-append, length-drop) (omega arith) in
    let front : take k w ≡ message = rw (ew, take_at message _ k lm) in
    let rest : length (drop k w) ≤ length w - k = rw length-drop (omega arith) in
    let part : length (take (length w - k) (drop k w)) ≡ n - k = rw (take_all (length w - k) (drop k w) rest, length-drop, len) in
    rw (front, et, part, drop_of_length-le (drop k w) rest, append-nil)
