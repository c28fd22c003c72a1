-- The starred cases of document 01, worked on paper: one table, and what it claims of each. A word of n cells is written as the number of its cells,
-- first cell first; a code is named by its family: 1 is (7,11), 2 is (7,13), 4 is (15,465), 5 is (15,1335). Assumes nothing.
use Rattle.std.specs.Prelude.{◌≡◌, List, [], ◌∷◌, ℕ, length}
use Rattle.poly.specs.Cells.{cells}
use Rattle.division.specs.Division.{DividesCells}
use Rattle.codes.specs.Coding.{Systematic, Product, First}
use Rattle.codes.specs.Calls.{Encodes, Leaves, Decodes}
use Rattle.families.specs.Families.{length_of, generator_of}

pub data Case : Type 0 where
  -- a dividend of so many cells, the divisor, the quotient and the remainder
  divides : ℕ → ℕ → ℕ → ℕ → ℕ → Case
  -- a family, a message and its word
  systematic : ℕ → ℕ → ℕ → Case
  product : ℕ → ℕ → ℕ → Case
  -- a family, a word and its remainder
  remains : ℕ → ℕ → ℕ → Case
  -- a family, a rule, a word, its message and the number of cells mended
  mends : ℕ → ℕ → ℕ → ℕ → ℕ → Case
  -- a family, a rule and a word that gives number 8
  refuses : ℕ → ℕ → ℕ → Case

-- What a case claims: what the call hands back, by the definitions; for a division whatever the lent quotient held.
abbrev pub Holds : Case → Type 0
Holds (divides n p g q s) = (lent : List ℕ) → length lent ≡ n → DividesCells (cells n p) g lent (cells n q) 0 s
Holds (systematic f d w) = Encodes Systematic (length_of f) (generator_of f) d 0 w
Holds (product f d w) = Encodes Product (length_of f) (generator_of f) d 0 w
Holds (remains f w s) = Leaves (length_of f) (generator_of f) w 0 s
Holds (mends f rule w d count) = Decodes First (length_of f) (generator_of f) rule w 0 d count
Holds (refuses f rule w) = Decodes First (length_of f) (generator_of f) rule w 8 0 0

abbrev pub Every : (Case → Type 0) → List Case → Type 0
Every P [] = Unit {0}
Every P (c ∷ cs) = P c × Every P cs

abbrev pub starred : List Case
starred =
    divides 10 0b1010100011 45 0b0000010011 4  -- 1
    ∷ divides 8 0b11000111 21 0b00001111 4  -- 2
    ∷ divides 7 0b1110011 11 0b0001100 7  -- 3
    ∷ systematic 1 0b1101 0b1101001  -- 4
    ∷ systematic 1 0b1001 0b1001110  -- 5
    ∷ systematic 2 0b0010 0b0010111  -- 6
    ∷ product 1 0b0101 0b0100111  -- 7
    ∷ systematic 5 0b10101 0b101011001000111  -- 8
    ∷ systematic 4 0b0011100 0b001110011000001  -- 9
    ∷ remains 5 0b100000101010001 970  -- 10
    ∷ mends 1 1 0b1101101 0b1101 1  -- 11
    ∷ mends 4 2 0b101110011000000 0b0011100 2  -- 12
    ∷ refuses 4 2 0b000000000000101  -- 13
    ∷ []
