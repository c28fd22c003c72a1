-- Tests that antt computes, and what they say where they pass: two tests, and a test at every number below a bound.
-- Assumes nothing.
use mathlib.Core.Path.{◌≡◌, refl}
use mathlib.Core.Bool.{Bool, true, false, not, ◌&&◌}
use mathlib.Core.Logic.{◌⊎◌, inl, inr}
use Prim.Native.Nat.{ℕ, zero, suc, ◌<◌}
use native.Mathlib.Nat.{eq-or-lt_of_le, le_of_suc-le-suc, not-suc-le-zero}
use lib.Dec.{T}

-- a test that passes answers true
pub is_true : (b : Bool) → T b → b ≡ true
is_true true t = refl
is_true false t = absurd t

-- two tests, one after the other
pub and_left : (a b : Bool) → T (a && b) → T a
and_left true b t = tt
and_left false b t = t

pub and_right : (a b : Bool) → T (a && b) → T b
and_right true b t = t
and_right false b t = absurd t

pub not_and : (a b : Bool) → T (not (a && b)) → T (not a) ⊎ T (not b)
not_and true b t = inr t
not_and false b t = inl tt

-- the test passes at each number below n
abbrev pub each_below : ℕ → (ℕ → Bool) → Bool
each_below zero t = true
each_below (suc n) t = t n && each_below n t

pub each_at : (t : ℕ → Bool) (n : ℕ) → T (each_below n t) → (i : ℕ) → i < n → T (t i)
each_at t zero p i l = absurd (not-suc-le-zero l)
each_at t (suc n) p i l = go (each_at t n (and_right (t n) (each_below n t) p) i) (eq-or-lt_of_le (le_of_suc-le-suc l))
  where
    go : (i < n → T (t i)) → (i ≡ n) ⊎ (i < n) → T (t i)
    go less (inl e) = rw e (and_left (t n) (each_below n t) p)
    go less (inr b) = less b
