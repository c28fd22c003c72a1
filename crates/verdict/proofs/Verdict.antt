-- Two numbers that one list of checks gives are equal, and 0 is given exactly if every check passes.
-- Assumes nothing.
use mathlib.Core.Path.{◌≡◌, refl, sym, ap, ◌∙◌}
use mathlib.Core.Bool.{Bool, true, false, cond, true≢false}
use mathlib.Core.List.{List, [], ◌∷◌, ◌++◌}
use mathlib.Core.Logic.{◌⊎◌, inl, inr}
use Prim.Native.Nat.{ℕ, zero, suc, ◌<◌}
use native.Mathlib.Decide.{ℕ_discrete}
use native.Mathlib.Nat.{eq-zero-or-pos}
use native.Mathlib.Omega.{arith}
use lib.Dec.{T, eqb, eqb→eq}
use Rattle.std.specs.Prelude.{Result, Ok, Err}
use Rattle.std.specs.Result.{IsErrAnd}
use Rattle.verdict.specs.Refusal.{number_of, number, value}
use Rattle.verdict.specs.declared.Refusal.{Refusal}
use Rattle.verdict.specs.declared.Refusal.TheVariants.{Length, Generator, NotCyclic, Rule, NotCarried, Lent, Cell, Unreadable, Record, Differ, Form}
use Rattle.verdict.specs.Verdict.{Check, Verdict, Passed, Settles, Tells, Where, order, among}

-- a list of checks gives one number
pub verdict_settled : (cs : List Check) {m n : ℕ} → Verdict cs m → Verdict cs n → m ≡ n
verdict_settled [] a b = a ∙ sym b
verdict_settled (c ∷ cs) (inl a) (inl b) = a.1 ∙ sym b.1
verdict_settled (c ∷ cs) (inl a) (inr b) = absurd (a.0 b.0)
verdict_settled (c ∷ cs) (inr a) (inl b) = absurd (b.0 a.0)
verdict_settled (c ∷ cs) (inr a) (inr b) = verdict_settled cs a.1 b.1

-- ---- 0 is no check's number

abbrev Numbered : List Check → Type 0
Numbered [] = Unit {0}
Numbered (c ∷ cs) = (0 < c.number) × Numbered cs

-- no 0 among the numbers
abbrev positive : List ℕ → Bool
positive [] = true
positive (zero ∷ ms) = false
positive (suc m ∷ ms) = positive ms

among_numbered : (cs : List Check) (ms : List ℕ) → T (positive ms) → T (among cs ms) → Numbered cs
among_numbered [] ms p t = tt
among_numbered (c ∷ cs) [] p t = absurd t
among_numbered (c ∷ cs) (zero ∷ ms) p t = absurd p
among_numbered (c ∷ cs) (suc m ∷ ms) p t = go (λ u. among_numbered cs ms p u) (λ u. among_numbered (c ∷ cs) ms p u) (eqb c.number (suc m)) refl t
  where
    go : (T (among cs ms) → Numbered cs) → (T (among (c ∷ cs) ms) → Numbered (c ∷ cs)) → (b : Bool) → eqb c.number (suc m) ≡ b
        → T (cond b (among cs ms) (among (c ∷ cs) ms)) → Numbered (c ∷ cs)
    go here later true e u = (let s : c.number ≡ suc m = eqb→eq c.number (suc m) (rw e tt) in omega (arith, s), here u)
    go here later false e u = later u

zero_passed : (cs : List Check) → Numbered cs → Verdict cs 0 → Passed cs
zero_passed [] h v = tt
zero_passed (c ∷ cs) h (inl a) = let n : ⊥ = omega (arith, a.1) in absurd n
zero_passed (c ∷ cs) h (inr a) = (a.0, zero_passed cs h.1 a.1)

-- so 0 says that all passed, of checks that stand in their order
pub verdict_passed : (cs : List Check) {m : ℕ} → T (among cs order) → Verdict cs m → m ≡ 0 → Passed cs
verdict_passed cs o v e = zero_passed cs (among_numbered cs order tt o) (rw e at v)

pub passed_verdict : (cs : List Check) → Passed cs → Verdict cs 0
passed_verdict [] p = refl
passed_verdict (c ∷ cs) p = inr (p.0, passed_verdict cs p.1)

-- ---- two results of one call

-- what is settled where it was done, and where it was refused, is settled
module _ {cs : List Check} {A : Type 0} {x y : A} {m n : ℕ} {D E R S : Type 0} where
  pub settled : Settles cs m D R → Settles cs n E S → (Passed cs → m ≡ 0 → m ≡ n → D → E → x ≡ y) → (m ≡ n → R → S → x ≡ y) → x ≡ y
  settled a b done refused = go (eq-zero-or-pos m)
    where
      same : m ≡ n
      same = verdict_settled cs a.verdict b.verdict

      go : (m ≡ 0) ⊎ (0 < m) → x ≡ y
      go (inl e) = done (verdict_passed cs a.ordered a.verdict e) e same (a.done e) (b.done (sym same ∙ e))
      go (inr l) = refused same (a.refused (omega arith)) (b.refused (omega (arith, same)))

-- a call whose checks pass was done, with 0
pub settles_done : {cs : List Check} {m : ℕ} {D R : Type 0} → Settles cs m D R → Passed cs → (m ≡ 0) × D
settles_done {cs} {m} s p = let e : m ≡ 0 = verdict_settled cs s.verdict (passed_verdict cs p) in (e, s.done e)

-- a call that was done, and one that was refused
pub settles_yes : (cs : List Check) {D R : Type 0} → T (among cs order) → Passed cs → D → Settles cs 0 D R
settles_yes cs o p d = record { ordered = o; verdict = passed_verdict cs p; done = λ e. d; refused = λ f. absurd (f refl) }

pub settles_no : (cs : List Check) {m : ℕ} {D R : Type 0} → T (among cs order) → (m ≡ 0 → ⊥) → Verdict cs m → R → Settles cs m D R
settles_no cs o f v r = record { ordered = o; verdict = v; done = λ e. absurd (f e); refused = λ h. r }

pub settles_refused : (cs : List Check) {m : ℕ} {D R : Type 0} → T (among cs order) → Verdict cs (suc m) → R → Settles cs (suc m) D R
settles_refused cs o = settles_no cs o (omega arith)

-- ---- other lists of checks

-- a check that passes can be left out, wherever it stands
pub verdict_skip : (c : Check) (cs : List Check) {m : ℕ} → c.passes → Verdict (c ∷ cs) m → Verdict cs m
verdict_skip c cs p (inl a) = absurd (a.0 p)
verdict_skip c cs p (inr a) = a.1

pub verdict_leave : (c : Check) (cs ds : List Check) (m : ℕ) → c.passes → Verdict (cs ++ (c ∷ ds)) m → Verdict (cs ++ ds) m
verdict_leave c [] ds m p v = verdict_skip c ds p v
verdict_leave c (d ∷ cs) ds m p (inl a) = inl a
verdict_leave c (d ∷ cs) ds m p (inr a) = inr (a.0, verdict_leave c cs ds m p a.1)

-- and one that asks the same can stand in its place
pub verdict_map : (c d : Check) (cs ds : List Check) {m : ℕ} → c.number ≡ d.number → (c.passes → d.passes) → (d.passes → c.passes)
    → (Verdict cs m → Verdict ds m) → Verdict (c ∷ cs) m → Verdict (d ∷ ds) m
verdict_map c d cs ds e to from rest (inl a) = inl ((λ p. a.0 (from p)), a.1 ∙ e)
verdict_map c d cs ds e to from rest (inr a) = inr (to a.0, rest a.1)

-- more checks after those: they count only where all before them pass
pub verdict_stop : (cs ds : List Check) {m : ℕ} → (m ≡ 0 → ⊥) → Verdict cs m → Verdict (cs ++ ds) m
verdict_stop [] ds f e = absurd (f e)
verdict_stop (c ∷ cs) ds f (inl a) = inl a
verdict_stop (c ∷ cs) ds f (inr a) = inr (a.0, verdict_stop cs ds f a.1)

pub verdict_on : (cs ds : List Check) (m : ℕ) → Passed cs → Verdict ds m → Verdict (cs ++ ds) m
verdict_on [] ds m p v = v
verdict_on (c ∷ cs) ds m p v = inr (p.0, verdict_on cs ds m p.1 v)

-- either those before decide, whatever comes after them, or all of them pass and those after decide
pub verdict_cut : (cs ds es : List Check) (m : ℕ) → Verdict (cs ++ ds) m → (Passed cs × Verdict ds m) ⊎ Verdict (cs ++ es) m
verdict_cut [] ds es m v = inl (tt, v)
verdict_cut (c ∷ cs) ds es m (inl a) = inr (inl a)
verdict_cut (c ∷ cs) ds es m (inr a) = go (verdict_cut cs ds es m a.1)
  where
    go : (Passed cs × Verdict ds m) ⊎ Verdict (cs ++ es) m → (Passed (c ∷ cs) × Verdict ds m) ⊎ Verdict (c ∷ (cs ++ es)) m
    go (inl p) = inl ((a.0, p.0), p.1)
    go (inr v) = inr (inr (a.0, v))

pub passed_on : (cs ds : List Check) → Passed cs → Passed ds → Passed (cs ++ ds)
passed_on [] ds p q = q
passed_on (c ∷ cs) ds p q = (p.0, passed_on cs ds p.1 q)

pub passed_first : (cs ds : List Check) → Passed (cs ++ ds) → Passed cs
passed_first [] ds p = tt
passed_first (c ∷ cs) ds p = (p.0, passed_first cs ds p.1)

pub passed_last : (cs ds : List Check) → Passed (cs ++ ds) → Passed ds
passed_last [] ds p = p
passed_last (c ∷ cs) ds p = passed_last cs ds p.1

-- ---- tests, and calls without a number

-- a test that answered right tells
pub tells_yes : {A : Type 0} → A → Tells A true
tells_yes a = record { yes = λ e. a; no = λ e. absurd (true≢false e) }

pub tells_no : {A : Type 0} → (A → ⊥) → Tells A false
tells_no f = record { yes = λ e. absurd (true≢false (sym e)); no = λ e a. f a }

-- two answers that tell of one thing are equal
pub tells_settled : {A : Type 0} {b c : Bool} → Tells A b → Tells A c → b ≡ c
tells_settled {b = true} {c = true} s t = refl
tells_settled {b = true} {c = false} s t = absurd (t.no refl (s.yes refl))
tells_settled {b = false} {c = true} s t = absurd (s.no refl (t.yes refl))
tells_settled {b = false} {c = false} s t = refl

-- what is known to hold, or to fail, leaves one side
pub where_holds : {A B C : Type 0} → A → B → Where A B C
where_holds a b = record { holds = λ h. b; fails = λ f. absurd (f a) }

pub where_fails : {A B C : Type 0} → (A → ⊥) → C → Where A B C
where_fails f c = record { holds = λ a. absurd (f a); fails = λ h. c }

-- two numbers that are equal where A holds, and where it doesn't, are equal, whether A can be decided or not
pub where_settled : {A : Type 0} {x y : ℕ} → (A → x ≡ y) → ((A → ⊥) → x ≡ y) → x ≡ y
where_settled {A} {x} {y} h f = go (ℕ_discrete x y)
  where
    go : Dec (x ≡ y) → x ≡ y
    go (yes e) = e
    go (no n) = f λ a. n (h a)

-- so a call that gives a value where A holds, and another where it doesn't, gives one number
pub where_value : {A : Type 0} {value other x y : ℕ} → Where A (x ≡ value) (x ≡ other) → Where A (y ≡ value) (y ≡ other) → x ≡ y
where_value a b = where_settled (λ h. a.holds h ∙ sym (b.holds h)) (λ f. a.fails f ∙ sym (b.fails f))

-- ---- refusals

-- no refusal has number 0
pub number_of_pos : (e : Refusal) → 0 < number_of e
number_of_pos Length = omega arith
number_of_pos Generator = omega arith
number_of_pos NotCyclic = omega arith
number_of_pos Rule = omega arith
number_of_pos NotCarried = omega arith
number_of_pos Lent = omega arith
number_of_pos Cell = omega arith
number_of_pos Unreadable = omega arith
number_of_pos Record = omega arith
number_of_pos Differ = omega arith
number_of_pos Form = omega arith

pub number_of_nonzero : (e : Refusal) → number_of e ≡ 0 → ⊥
number_of_nonzero e z = omega (arith, number_of_pos e, z)

-- what `?` hands back is the refusal that it met
pub refused_as : {A : Type 0} {e : Refusal} (r : Result A Refusal) → IsErrAnd r (λ y. y ≡ e) → r ≡ Err e
refused_as (Err y) h = ap Err h
refused_as (Ok x) h = absurd h

-- ---- two results

-- a refusal is known by its number
abbrev refusal_of : ℕ → Refusal
refusal_of n =
    cond (eqb n 1) Length (cond (eqb n 2) Generator (cond (eqb n 3) NotCyclic (cond (eqb n 4) Rule (cond (eqb n 5) NotCarried
    (cond (eqb n 6) Lent (cond (eqb n 7) Cell (cond (eqb n 8) Unreadable (cond (eqb n 9) Record (cond (eqb n 10) Differ Form)))))))))

refusal_back : (e : Refusal) → refusal_of (number_of e) ≡ e
refusal_back Length = refl
refusal_back Generator = refl
refusal_back NotCyclic = refl
refusal_back Rule = refl
refusal_back NotCarried = refl
refusal_back Lent = refl
refusal_back Cell = refl
refusal_back Unreadable = refl
refusal_back Record = refl
refusal_back Differ = refl
refusal_back Form = refl

pub number_of_same : (e f : Refusal) → number_of e ≡ number_of f → e ≡ f
number_of_same e f h = sym (refusal_back e) ∙ ap refusal_of h ∙ refusal_back f

-- two results with one number are one, where with 0 they are the same
pub results_same : {A : Type 0} (x y : Result A Refusal) → number x ≡ number y → ((a b : A) → x ≡ Ok a → y ≡ Ok b → a ≡ b) → x ≡ y
results_same (Ok a) (Ok b) h same = ap Ok (same a b refl refl)
results_same (Ok a) (Err e) h same = absurd (number_of_nonzero e (sym h))
results_same (Err e) (Ok b) h same = absurd (number_of_nonzero e h)
results_same (Err e) (Err f) h same = ap Err (number_of_same e f h)

-- and so two with one number and one value
pub values_same : (x y : Result ℕ Refusal) → number x ≡ number y → value x ≡ value y → x ≡ y
values_same x y h v = results_same x y h (λ a b p q. rw (p, q) at v)
