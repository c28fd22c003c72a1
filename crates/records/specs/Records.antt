-- Records of 16 bytes, and the lines of text that they give. Assumes nothing.
use Rattle.std.specs.Prelude.{◌≡◌, cond, ◌||◌, List, [], ◌∷◌, ◌++◌, ℕ, ◌+◌, ◌*◌, ◌/◌, ◌^◌, ◌≤◌, ◌<◌, eqb, length, get_or, take, drop}
use Rattle.codes.specs.Coding.{Systematic, Product, First}
use Rattle.codes.specs.Calls.{MessageFits, Encodes, Leaves, Decodes}
use Rattle.families.specs.Families.{length_of, generator_of}
use Rattle.text.specs.Text.{decimal, Puts}
use Rattle.verdict.specs.Verdict.{Where}
pub use Rattle.records.specs.declared.job.Job.{Job}
pub use Rattle.records.specs.declared.job.Job.TheVariants.{E, P, S, D, Q}

-- ---- a record: 16 bytes, numbers big-endian

-- Bytes as a number, the first one highest.
abbrev pub big_endian : List ℕ → ℕ
big_endian [] = 0
big_endian (b ∷ bs) = b * 256 ^ length bs + big_endian bs

pub record Record : Type 0 where
  pub letter : ℕ
  pub family : ℕ
  pub rule : ℕ
  pub spare : ℕ
  pub station : ℕ
  pub word : ℕ

-- Byte 0 the job letter; 1 the family; 2 the rule; 3 zero; 4 to 7 the station; 8 to 15 a word, where bit i is x^i.
abbrev pub record_of : List ℕ → Record
record_of bytes = record {
  letter = get_or bytes 0 0;
  family = get_or bytes 1 0;
  rule = get_or bytes 2 0;
  spare = get_or bytes 3 0;
  station = big_endian (take 4 (drop 4 bytes));
  word = big_endian (take 8 (drop 8 bytes));
}

-- ---- the jobs

-- E systematic encode, P product encode, S remainder, D systematic decode, Q product decode: the program's own names.
abbrev pub letter_of : Job → ℕ
letter_of E = 69
letter_of P = 80
letter_of S = 83
letter_of D = 68
letter_of Q = 81

-- The rule byte is zero with E, P and S.
abbrev pub RuleFits : Job → ℕ → Type 0
RuleFits E rule = rule ≡ 0
RuleFits P rule = rule ≡ 0
RuleFits S rule = rule ≡ 0
RuleFits D rule = Unit {0}
RuleFits Q rule = Unit {0}

-- The word is below 2^k with E and P, and below 2^n with S, D and Q.
abbrev pub WordFits : Job → ℕ → ℕ → ℕ → Type 0
WordFits E n g w = MessageFits n g w
WordFits P n g w = MessageFits n g w
WordFits S n g w = w < 2 ^ n
WordFits D n g w = w < 2 ^ n
WordFits Q n g w = w < 2 ^ n

-- The record asks for the job, and is allowed.
pub record Allowed (x : Record) (job : Job) : Type 0 where
  pub letter : x.letter ≡ letter_of job
  pub least : 1 ≤ x.family
  pub most : x.family ≤ 12
  pub spare : x.spare ≡ 0
  pub rule : RuleFits job x.rule
  pub word : WordFits job (length_of x.family) (generator_of x.family) x.word

-- What the job's call hands back: the number, the count of mended cells (0 for E, P, S) and the value.
abbrev pub Calls : Job → ℕ → ℕ → ℕ → ℕ → ℕ → ℕ → ℕ → Type 0
Calls E n g rule w number count value = Encodes Systematic n g w number value × (count ≡ 0)
Calls P n g rule w number count value = Encodes Product n g w number value × (count ≡ 0)
Calls S n g rule w number count value = Leaves n g w number value × (count ≡ 0)
Calls D n g rule w number count value = Decodes First n g rule w number value count
Calls Q n g rule w number count value = Decodes Product n g rule w number value count

-- What a record gives. Number 9 comes before every other: with it count and value are 0.
pub record Gives (x : Record) (number count value : ℕ) : Type 0 where
  pub refused : ((job : Job) → Allowed x job → ⊥) → (number ≡ 9) × (count ≡ 0) × (value ≡ 0)
  pub done : (job : Job) → Allowed x job → Calls job (length_of x.family) (generator_of x.family) x.rule x.word number count value

-- ---- lines

-- The letter, `?` if unknown.
abbrev pub shown : ℕ → ℕ
shown b = cond (eqb b 69 || eqb b 80 || eqb b 83 || eqb b 68 || eqb b 81) b 63

-- The station, the letter, the number handed back, the count of mended cells and the resulting value, in decimal, one space between, line feed after.
abbrev pub line_of : Record → ℕ → ℕ → ℕ → List ℕ
line_of x number count value =
    decimal x.station ++ (32 ∷ shown x.letter ∷ 32 ∷ decimal number ++ (32 ∷ decimal count ++ (32 ∷ decimal value ++ (10 ∷ []))))

-- The fixed word `short`, a space and the count of the bytes left over, then a line feed.
abbrev pub short_of : ℕ → List ℕ
short_of count = 115 ∷ 104 ∷ 111 ∷ 114 ∷ 116 ∷ 32 ∷ decimal count ++ (10 ∷ [])

-- What a run of bytes prints: a line for each record, and a short line for 1 to 15 bytes left over.
pub data Prints : List ℕ → List ℕ → Type 0 where
  end : Prints [] []
  rest : (bytes : List ℕ) → 0 < length bytes → length bytes < 16 → Prints bytes (short_of (length bytes))
  line : (bytes more text : List ℕ) (number count value : ℕ) → length bytes ≡ 16 → Gives (record_of bytes) number count value → Prints more text
      → Prints (bytes ++ more) (line_of (record_of bytes) number count value ++ text)

-- ---- a block of records

-- Room for the lines: 64 bytes for each record, and 64 more.
abbrev pub Room : List ℕ → List ℕ → Type 0
Room records out = 64 * (length records / 16 + 1) ≤ length out

-- What the records print fits, is put at the front of `out`, and the place after it handed back. Where there is no room, nothing is written and 0
-- handed back.
abbrev pub Printed : List ℕ → List ℕ → List ℕ → ℕ → Type 0
Printed records out out' place =
    Where (Room records out) ((text : List ℕ) × Prints records text × (length text ≤ length out) × Puts text out 0 out' place) ((place ≡ 0) × (out' ≡ out))
