-- Whether a code carries a rule, as a test that antt computes over the row of patterns.
-- Assumes nothing.
use mathlib.Core.Path.{◌≡◌, refl, sym, ap, ◌∙◌}
use mathlib.Core.Bool.{Bool, true, false, not, ◌&&◌}
use mathlib.Core.List.{List, [], ◌∷◌}
use mathlib.Core.Logic.{◌⊎◌, inl, inr}
use Prim.Native.Nat.{ℕ, zero, suc, ◌+◌, ◌≤◌, ◌<◌, suc-le-suc, zero-le}
use native.Mathlib.Nat.{add-zero, zero-add, add-suc, suc-add, le_of_suc-le-suc, not-suc-le-zero}
use lib.Dec.{T, T_not, eqb, eqb→eq, eqb_refl}
use lib.ListN.{length, get_or}
use Rattle.poly.specs.Poly.{Remainder}
use Rattle.poly.proofs.Computed.{divide}
use Rattle.poly.proofs.Division.{divide_remainder}
use Rattle.verdict.specs.Verdict.{Tells}
use Rattle.verdict.proofs.Verdict.{tells_yes, tells_no}
use Rattle.verdict.proofs.Bool.{and_left, and_right, not_and}
use Rattle.codes.specs.Mending.{Pattern, Carries}
use Rattle.codes.specs.Row.{pattern_at, pattern_count}
use Rattle.codes.proofs.Row.{row_carries, row_collides}

-- ---- a list in which no two places hold the same

abbrev pub missing : ℕ → List ℕ → Bool
missing x [] = true
missing x (y ∷ ys) = not (eqb x y) && missing x ys

abbrev pub distinct : List ℕ → Bool
distinct [] = true
distinct (x ∷ xs) = missing x xs && distinct xs

missing_apart : (x : ℕ) (ys : List ℕ) → T (missing x ys) → (k : ℕ) → k < length ys → x ≡ get_or ys k 0 → ⊥
missing_apart x [] t k l e = not-suc-le-zero l
missing_apart x (y ∷ ys) t zero l e = T_not (eqb x y) (and_left (not (eqb x y)) (missing x ys) t) (rw e (eqb_refl y))
missing_apart x (y ∷ ys) t (suc k) l e = missing_apart x ys (and_right (not (eqb x y)) (missing x ys) t) k (le_of_suc-le-suc l) e

missing_found : (x : ℕ) (ys : List ℕ) → T (not (missing x ys)) → (k : ℕ) × (k < length ys) × (x ≡ get_or ys k 0)
missing_found x [] t = absurd t
missing_found x (y ∷ ys) t = go (missing_found x ys) (not_and (not (eqb x y)) (missing x ys) t)
  where
    twice : (b : Bool) → T (not (not b)) → T b
    twice true s = tt
    twice false s = s

    go : (T (not (missing x ys)) → (k : ℕ) × (k < length ys) × (x ≡ get_or ys k 0)) → T (not (not (eqb x y))) ⊎ T (not (missing x ys))
        → (k : ℕ) × (k < suc (length ys)) × (x ≡ get_or (y ∷ ys) k 0)
    go later (inl s) = (0, suc-le-suc zero-le, eqb→eq x y (twice (eqb x y) s))
    go later (inr s) = let f = later s in (suc f.0, suc-le-suc f.1, f.2)

distinct_apart : (xs : List ℕ) → T (distinct xs) → (y : ℕ) → y < length xs → (x : ℕ) → x < y → get_or xs x 0 ≡ get_or xs y 0 → ⊥
distinct_apart [] t y l x b e = not-suc-le-zero l
distinct_apart (a ∷ xs) t zero l x b e = not-suc-le-zero b
distinct_apart (a ∷ xs) t (suc y) l zero b e = missing_apart a xs (and_left (missing a xs) (distinct xs) t) y (le_of_suc-le-suc l) e
distinct_apart (a ∷ xs) t (suc y) l (suc x) b e =
    distinct_apart xs (and_right (missing a xs) (distinct xs) t) y (le_of_suc-le-suc l) x (le_of_suc-le-suc b) e

-- two places that hold the same
abbrev Twice : List ℕ → Type 0
Twice xs = (i : ℕ) × (j : ℕ) × (i < j) × (j < length xs) × (get_or xs i 0 ≡ get_or xs j 0)

distinct_fails : (xs : List ℕ) → T (not (distinct xs)) → Twice xs
distinct_fails [] t = absurd t
distinct_fails (a ∷ xs) t = go (distinct_fails xs) (not_and (missing a xs) (distinct xs) t)
  where
    go : (T (not (distinct xs)) → Twice xs) → T (not (missing a xs)) ⊎ T (not (distinct xs)) → Twice (a ∷ xs)
    go later (inl s) = let f = missing_found a xs s in (0, suc f.0, suc-le-suc zero-le, suc-le-suc f.1, f.2)
    go later (inr s) = let f = later s in (suc f.0, suc f.1, suc-le-suc f.2, suc-le-suc f.3, f.4)

-- ---- the remainders of the row

abbrev pub listed : (ℕ → ℕ) → ℕ → ℕ → List ℕ
listed f i zero = []
listed f i (suc m) = f i ∷ listed f (suc i) m

length_listed : (f : ℕ → ℕ) (i m : ℕ) → length (listed f i m) ≡ m
length_listed f i zero = refl
length_listed f i (suc m) = ap suc (length_listed f (suc i) m)

get_or-listed : (f : ℕ → ℕ) (i m k : ℕ) → k < m → get_or (listed f i m) k 0 ≡ f (i + k)
get_or-listed f i zero k l = absurd (not-suc-le-zero l)
get_or-listed f i (suc m) zero l = ap f (sym (add-zero i))
get_or-listed f i (suc m) (suc k) l = get_or-listed f (suc i) m k (le_of_suc-le-suc l) ∙ ap f (suc-add i k ∙ sym (add-suc i k))

-- what pattern i of the row leaves
unfoldable pub leaves : ℕ → ℕ → ℕ → ℕ
unfolding divide pattern_at
leaves n g i = (divide (pattern_at n i) g).remainder

-- no two patterns of the rule leave the same
unfoldable pub carries : ℕ → ℕ → ℕ → Bool
unfolding leaves pattern_count
carries n g rule = distinct (listed (leaves n g) 0 (pattern_count n rule))

module _ {n g : ℕ} (rule : ℕ) (least : 2 ≤ n) (pos : 0 < g) where
  m : ℕ
  m = pattern_count n rule

  row : List ℕ
  row = listed (leaves n g) 0 m

  filled : (i : ℕ) → i < m → Remainder (pattern_at n i) g (get_or row i 0)
  unfolding m row leaves
  filled i l = rw (get_or-listed (leaves n g) 0 m i l, zero-add) (divide_remainder (pattern_at n i) pos)

  -- the test tells whether the code carries the rule
  pub carries_tells : Tells (Carries (Pattern n rule) g) (carries n g rule)
  unfolding carries m row
  carries_tells = go (distinct row) refl
    where
      long : length row ≡ m
      long = length_listed (leaves n g) 0 m

      go : (b : Bool) → distinct row ≡ b → Tells (Carries (Pattern n rule) g) b
      go true e = tells_yes (row_carries rule least row m refl filled (rw long at (distinct_apart row (rw e tt))))
      go false e = tells_no (let f = distinct_fails row (rw e tt) in row_collides rule least row m refl filled f.0 f.1 f.2 (rw long at f.3) f.4)
