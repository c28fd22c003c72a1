-- From the answer of a job to what a record gives: a letter asks for one job.
-- Assumes nothing.
use mathlib.Core.Path.{◌≡◌, refl, sym, ap, ◌∙◌}
use mathlib.Core.Bool.{cond}
use Prim.Native.Nat.{ℕ, ◌+◌, ◌≤◌}
use native.Mathlib.Omega.{arith}
use lib.Dec.{eqb}
use Rattle.families.specs.Families.{lengths, generators, length_of, generator_of}
use Rattle.families.proofs.Families.{entry}
use Rattle.tables.specs.declared.Plate.{Plate}
use Rattle.records.specs.Records.{Record, Job, E, P, S, D, Q, letter_of, Gives}
use Rattle.records.specs.Steps.{Answered}

-- the job of a letter
job_of : ℕ → Job
job_of b = cond (eqb b 69) E (cond (eqb b 80) P (cond (eqb b 83) S (cond (eqb b 68) D Q)))

job_letter : (job : Job) → job_of (letter_of job) ≡ job
unfolding job_of
job_letter E = refl
job_letter P = refl
job_letter S = refl
job_letter D = refl
job_letter Q = refl

letter_job : (a b : Job) → letter_of a ≡ letter_of b → a ≡ b
letter_job a b e = sym (job_letter a) ∙ ap job_of e ∙ job_letter b

-- a letter, a family and a zero byte: the job decides
pub gives_job : (x : Record) (job : Job) {number count value : ℕ} → x.letter ≡ letter_of job → 1 ≤ x.family → x.family ≤ 12 → x.spare ≡ 0
    → Answered job (length_of x.family) (generator_of x.family) x.rule x.word number count value → Gives x number count value
gives_job x job letter least most spare a = record {
  refused = λ none. a.refused λ rule word. none job (record { letter = letter; least = least; most = most; spare = spare; rule = rule; word = word });
  done = λ other b. let same = letter_job other job (sym b.letter ∙ letter) in rw same (a.done (rw same at b.rule) (rw same at b.word));
}

-- and so for the family's plate
pub gives_plate : (x : Record) (job : Job) (p : Plate) {number count value : ℕ} → x.letter ≡ letter_of job → p.f + 1 ≡ x.family → x.spare ≡ 0
    → Answered job p.n p.g x.rule x.word number count value → Gives x number count value
gives_plate x job p {number} {count} {value} letter family spare known =
    let cells : length_of x.family ≡ p.n = ap length_of (sym family) ∙ entry 0 lengths p.f ∙ sym p.family.length in
    let generator : generator_of x.family ≡ p.g = ap generator_of (sym family) ∙ entry 0 generators p.f ∙ sym p.generator in
    gives_job x job letter (omega arith) (omega (arith, p.family.row)) spare (rw (cells, generator) known)
