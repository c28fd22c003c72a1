-- The two equations of a number's digits, which hold of every number, its digits by parts, and how many there are.
-- Assumes nothing.
use mathlib.Core.Path.{◌≡◌, refl, sym, ap, ◌∙◌}
use mathlib.Core.List.{List, [], ◌∷◌, ◌++◌, append_assoc, append-nil}
use mathlib.Core.Logic.{⊎_elim}
use Prim.Native.Nat.{ℕ, zero, suc, ◌+◌, ◌*◌, ◌/◌, ◌%◌, ◌^◌, ◌<◌, ◌≤◌}
use native.Mathlib.Nat.{not-suc-le-zero, pow-suc, one-le-pow, div-one, div-div-eq-div-mul, div-lt_iff_lt-mul, add_comm, mul_comm}
use native.Mathlib.Numerals.{add-one}
use native.Mathlib.Omega.{arith}
use lib.Dec.{ltb, lit<}
use lib.ListN.{length, length-append}
use borrow.Author.Tests.{lt-ltb, le-ltb}
use Rattle.text.specs.Text.{digits, decimal}
use Rattle.text.specs.Lowest.{lowest}
use Rattle.text.proofs.Order.{le_or_lt}

-- room for one digit more than the number itself is room for all of them
digits_enough : (j k n : ℕ) → n < j → n < k → digits j (ltb n 10) n ≡ digits k (ltb n 10) n
unfolding digits
digits_enough zero k n h l = absurd (not-suc-le-zero h)
digits_enough (suc j) zero n h l = absurd (not-suc-le-zero l)
digits_enough (suc j) (suc k) n h l =
    ⊎_elim (λ m. rw (le-ltb n 10 m, digits_enough j k (n / 10) (omega arith) (omega arith))) (λ s. rw (lt-ltb n 10 s)) (le_or_lt 10 n)

-- a number below ten has its one digit
pub decimal_one : (n : ℕ) → n < 10 → decimal n ≡ (48 + n) ∷ []
unfolding decimal digits
decimal_one n h = rw (lt-ltb n 10 h)

-- any other has the digits of its tenth part, and then the last
pub decimal_more : (n : ℕ) → 10 ≤ n → decimal n ≡ decimal (n / 10) ++ (48 + n % 10) ∷ []
unfolding decimal digits
decimal_more n h =
    rw (le-ltb n 10 h) (ap (λ (l : List ℕ). l ++ (48 + n % 10) ∷ []) (digits_enough n (suc (n / 10)) (n / 10) (omega arith) (omega arith)))

-- so one of more than k digits has those of its high part, and then the k lowest
pub decimal_split : (k n : ℕ) → 10 ^ k ≤ n → decimal n ≡ decimal (n / 10 ^ k) ++ lowest k n
unfolding lowest
decimal_split zero n h = rw div-one (sym (append-nil (decimal n)))
decimal_split (suc k) n h =
    let e : 10 ^ suc k ≡ 10 ^ k * 10 = pow-suc 10 k in
    let p : 1 ≤ 10 ^ k = one-le-pow k 10 (lit< tt) in
    let high : n / 10 / 10 ^ k ≡ n / 10 ^ suc k = div-div-eq-div-mul n 10 (10 ^ k) ∙ ap (λ (x : ℕ). n / x) (mul_comm 10 (10 ^ k) ∙ sym e) in
    rw (decimal_more n (omega arith), decimal_split k (n / 10) (omega arith), high) (append_assoc (decimal (n / 10 ^ suc k)) (lowest k (n / 10)) ((48 + n % 10) ∷ []))

pub lowest_length : (k n : ℕ) → length (lowest k n) ≡ k
unfolding lowest
lowest_length zero n = refl
lowest_length (suc k) n = rw (length-append, lowest_length k (n / 10), add-one)

-- four of them, by one division
pub lowest_four : (n w : ℕ) → w ≡ n % 10000 → lowest 4 n ≡ (48 + w / 1000) ∷ (48 + w / 100 % 10) ∷ (48 + w / 10 % 10) ∷ (48 + w % 10) ∷ []
unfolding lowest
lowest_four n w e =
    let thousands : n / 10 / 10 / 10 % 10 ≡ w / 1000 = omega arith in
    let hundreds : n / 10 / 10 % 10 ≡ w / 100 % 10 = omega arith in
    let tens : n / 10 % 10 ≡ w / 10 % 10 = omega arith in
    let ones : n % 10 ≡ w % 10 = omega arith in
    rw (thousands, hundreds, tens, ones)

pub decimal_longer : (k n : ℕ) → 10 ^ k ≤ n → length (decimal n) ≡ length (decimal (n / 10 ^ k)) + k
decimal_longer k n h = rw (decimal_split k n h, length-append, lowest_length)

-- one from ten to the k on and below ten times that has k + 1
pub decimal_between : (k n : ℕ) → 10 ^ k ≤ n → n < 10 * 10 ^ k → length (decimal n) ≡ k + 1
decimal_between k n h l =
    let small : n / 10 ^ k < 10 = (div-lt_iff_lt-mul (one-le-pow k 10 (lit< tt))).1 l in
    rw (decimal_longer k n h, decimal_one (n / 10 ^ k) small) (add_comm 1 k)

-- a number has a digit
pub decimal_some : (n : ℕ) → 1 ≤ length (decimal n)
decimal_some n = ⊎_elim (λ m. omega (arith, decimal_longer 1 n m)) (λ s. rw (decimal_one n s) (omega arith)) (le_or_lt 10 n)

-- one below ten to the k has at most k, if k is not 0
pub decimal_most : (k n : ℕ) → 0 < k → n < 10 ^ k → length (decimal n) ≤ k
decimal_most zero n p h = absurd (not-suc-le-zero p)
decimal_most (suc zero) n p h = rw (decimal_one n h) (omega arith)
decimal_most (suc (suc k)) n p h =
    let e : 10 ^ suc (suc k) ≡ 10 ^ suc k * 10 = pow-suc 10 (suc k) in
    ⊎_elim (λ m. omega (arith, decimal_most (suc k) (n / 10) (omega arith) (omega arith), decimal_longer 1 n m))
    (λ s. rw (decimal_one n s) (omega arith))
    (le_or_lt 10 n)

-- a number of 64 bits has at most twenty
pub decimal_most_64 : (n : ℕ) → n < 2 ^ 64 → length (decimal n) ≤ 20
decimal_most_64 n h = decimal_most 20 n (omega arith) (omega arith)
