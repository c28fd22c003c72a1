-- Two results of one call are equal: what a record gives is settled, then its line, and so what a block of records prints.
-- Assumes nothing.
use mathlib.Core.Path.{◌≡◌, refl, sym, ap, ap₂, ◌∙◌}
use mathlib.Core.List.{List, ◌++◌, append_assoc}
use mathlib.Core.Logic.{◌⊎◌, inl, inr}
use Prim.Native.Nat.{ℕ, ◌+◌, ◌*◌, ◌/◌, ◌%◌, ◌≤◌, ◌<◌}
use native.Mathlib.Omega.{arith}
use lib.ListN.{length, take, drop, length-append}
use lib.Seq.{take_at, drop_at}
use Rattle.poly.proofs.Coefficient.{lt_or_le}
use Rattle.verdict.proofs.Verdict.{where_settled}
use Rattle.codes.specs.Coding.{Systematic, Product, First}
use Rattle.codes.proofs.Coding.{first_single, product_single}
use Rattle.codes.proofs.Settled.{systematic_sole, product_sole, encodes_settled, leaves_settled, decodes_settled}
use Rattle.families.specs.Families.{length_of, generator_of}
use Rattle.text.proofs.Puts.{put_bytes_settled}
use Rattle.records.specs.Records.{Record, Job, E, P, S, D, Q, Calls, Gives, record_of, line_of, short_of, Prints, end, rest, line, Printed}
use Rattle.records.specs.Records.{Allowed as AllowedRecord}

-- ---- a record

calls_same : (job : Job) (n g rule w : ℕ) {m k c e a b : ℕ} → Calls job n g rule w m c a → Calls job n g rule w k e b → (m ≡ k) × (c ≡ e) × (a ≡ b)
calls_same E n g rule w u v = let s = encodes_settled Systematic systematic_sole u.0 v.0 in (s.0, u.1 ∙ sym v.1, s.1)
calls_same P n g rule w u v = let s = encodes_settled Product product_sole u.0 v.0 in (s.0, u.1 ∙ sym v.1, s.1)
calls_same S n g rule w u v = let s = leaves_settled u.0 v.0 in (s.0, u.1 ∙ sym v.1, s.1)
calls_same D n g rule w u v = let s = decodes_settled First first_single u v in (s.0, s.2, s.1)
calls_same Q n g rule w u v = let s = decodes_settled Product product_single u v in (s.0, s.2, s.1)

module _ (x : Record) {m k c e a b : ℕ} (u : Gives x m c a) (v : Gives x k e b) where
  -- a job that is allowed, and no such job
  done_same : ((job : Job) × AllowedRecord x job) → (m ≡ k) × (c ≡ e) × (a ≡ b)
  done_same j =
      calls_same j.0 (length_of x.family) (generator_of x.family) x.rule x.word (u.done j.0 j.1) (v.done j.0 j.1)

  refused_same : (((job : Job) × AllowedRecord x job) → ⊥) → (m ≡ k) × (c ≡ e) × (a ≡ b)
  refused_same f =
      let p = u.refused (λ job h. f (job, h)) in
      let q = v.refused (λ job h. f (job, h)) in
      (p.0 ∙ sym q.0, p.1 ∙ sym q.1, p.2 ∙ sym q.2)

  pub gives_settled : (m ≡ k) × (c ≡ e) × (a ≡ b)
  gives_settled = (
    where_settled (λ j. (done_same j).0) (λ f. (refused_same f).0),
    where_settled (λ j. (done_same j).1) (λ f. (refused_same f).1),
    where_settled (λ j. (done_same j).2) (λ f. (refused_same f).2),
  )

-- ---- a block

-- two lists that begin with sixteen bytes each
front_same : (s t u v : List ℕ) → length s ≡ 16 → length u ≡ 16 → s ++ t ≡ u ++ v → (s ≡ u) × (t ≡ v)
front_same s t u v a b e =
    (sym (take_at s t 16 a) ∙ ap (take 16) e ∙ take_at u v 16 b, sym (drop_at s t 16 a) ∙ ap (drop 16) e ∙ drop_at u v 16 b)

prints_same : {a b t u : List ℕ} → Prints a t → Prints b u → a ≡ b → t ≡ u
prints_same end end e = refl
prints_same end (rest ys l m) e = let n : ⊥ = omega (arith, ap length e) in absurd n
prints_same end (line ys more text m c v k g p) e = let n : ⊥ = omega (arith, ap length e ∙ length-append ys more) in absurd n
prints_same (rest xs l m) end e = let n : ⊥ = omega (arith, ap length e) in absurd n
prints_same (rest xs l m) (rest ys k n) e = ap (λ (x : List ℕ). short_of (length x)) e
prints_same (rest xs l m) (line ys more text n c v k g p) e = let n : ⊥ = omega (arith, ap length e ∙ length-append ys more) in absurd n
prints_same (line xs less s m c v k g p) end e = let n : ⊥ = omega (arith, sym (ap length e) ∙ length-append xs less) in absurd n
prints_same (line xs less s m c v k g p) (rest ys l n) e = let n : ⊥ = omega (arith, sym (ap length e) ∙ length-append xs less) in absurd n
prints_same (line xs less s m c v k g p) (line ys more t n d w l h q) e =
    let f = front_same xs less ys more k l e in
    let same = gives_settled (record_of ys) (rw f.0 at g) h in
    ap₂ (λ (x y : List ℕ). x ++ y)
    (ap (λ (x : List ℕ). line_of (record_of x) m c v) f.0
    ∙ ap (λ (x : ℕ). line_of (record_of ys) x c v) same.0
    ∙ ap (λ (x : ℕ). line_of (record_of ys) n x v) same.1
    ∙ ap (λ (x : ℕ). line_of (record_of ys) n d x) same.2)
    (prints_same p q f.1)

pub prints_settled : {bytes t u : List ℕ} → Prints bytes t → Prints bytes u → t ≡ u
prints_settled p q = prints_same p q refl

-- a run of whole records and what follows it print one after the other
pub prints_append : {a b t u : List ℕ} → Prints a t → length a % 16 ≡ 0 → Prints b u → Prints (a ++ b) (t ++ u)
prints_append end w q = q
prints_append (rest xs l m) w q = let n : ⊥ = omega arith in absurd n
prints_append {b = b} {u = u} (line xs more text m c v k g p) w q =
    rw (append_assoc xs more b, append_assoc (line_of (record_of xs) m c v) text u)
    (line xs (more ++ b) (text ++ u) m c v k g (prints_append p (omega (arith, length-append xs more)) q))

-- two results of `lines`
pub lines_settled : {records out a b : List ℕ} {i j : ℕ} → Printed records out a i → Printed records out b j → (i ≡ j) × (a ≡ b)
lines_settled {records} {out} {a} {b} {i} {j} u v = go (lt_or_le (length out) (64 * (length records / 16 + 1)))
  where
    go : (length out < 64 * (length records / 16 + 1)) ⊎ (64 * (length records / 16 + 1) ≤ length out) → (i ≡ j) × (a ≡ b)
    go (inl l) =
        let p = u.fails (λ r. omega arith) in
        let q = v.fails (λ r. omega arith) in
        (p.0 ∙ sym q.0, p.1 ∙ sym q.1)
    go (inr r) =
        let p = u.holds r in
        let q = v.holds r in
        put_bytes_settled (rw (prints_settled p.1 q.1) at p.3) q.3
