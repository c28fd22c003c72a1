-- What the functions on the way from a record to its line promise each other. Assumes nothing.
use Rattle.std.specs.Prelude.{◌≡◌, List, ℕ, ◌≤◌, ◌<◌, length, Result, Ok, Err, MatchResult}
use Rattle.verdict.specs.declared.Refusal.{Refusal}
use Rattle.verdict.specs.declared.Refusal.TheVariants.{Record as NotAllowed}
use Rattle.text.specs.Text.{Puts}
use Rattle.records.specs.declared.jobs.Reading.{Reading}
use Rattle.records.specs.declared.record.Record.{Record as Fields}
use Rattle.records.specs.Records.{Record, Job, letter_of, RuleFits, WordFits, Calls, Gives, record_of, line_of}

-- The count and the value of an answer: 0 beside a refusal.
abbrev pub count_of : Result Reading Refusal → ℕ
count_of (Ok r) = r.count
count_of (Err e) = 0

abbrev pub value_of : Result Reading Refusal → ℕ
value_of (Ok r) = r.value
value_of (Err e) = 0

-- A letter asks for a job, or is refused with 9 where no job has it.
abbrev pub Asks : ℕ → Result Job Refusal → Type 0
Asks letter r = MatchResult r (λ job. letter ≡ letter_of job) (λ e. (e ≡ NotAllowed) × ((job : Job) → letter ≡ letter_of job → ⊥))

-- The job's answer for a family: 9 where the rule byte or the word does not fit. Number and count are single digits.
pub record Answered (job : Job) (n g rule w number count value : ℕ) : Type 0 where
  pub digits : (number < 10) × (count < 10)
  pub refused : (RuleFits job rule → WordFits job n g w → ⊥) → (number ≡ 9) × (count ≡ 0) × (value ≡ 0)
  pub done : RuleFits job rule → WordFits job n g w → Calls job n g rule w number count value

-- A record by the fields that the functions hand on.
abbrev pub fields : Fields → Record
fields x = record { letter = x.letter; family = x.family; rule = x.rule; spare = x.spare; station = x.station; word = x.word }

-- A line of at most 64 bytes, put at a place.
pub record PutsLine (text out : List ℕ) (at : ℕ) (out' : List ℕ) (place : ℕ) : Type 0 where
  pub short : length text ≤ 64
  pub puts : Puts text out at out' place

-- The line of a record.
pub record Line (bytes out : List ℕ) (at : ℕ) (out' : List ℕ) (place : ℕ) : Type 0 where
  pub number : ℕ
  pub count : ℕ
  pub value : ℕ
  pub gives : Gives (record_of bytes) number count value
  pub line : PutsLine (line_of (record_of bytes) number count value) out at out' place
