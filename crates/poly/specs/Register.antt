-- The register of source 000, stage by stage: its steps as document 01 writes them, and what its stages hold. Nothing here defines a quotient or
-- a remainder: that the register gives them is proved. Assumes nothing.
use Rattle.std.specs.Prelude.{List, [], ◌∷◌, ℕ, ◌+◌, ◌-◌, ◌*◌, ◌/◌, ◌%◌, get_or}
use Rattle.poly.specs.Poly.{sum}

-- The polynomial in the stages, listed lowest first: stage i for x^i.
unfoldable pub held : List ℕ → ℕ
held [] = 0
held (c ∷ s) = held s * 2 + c

-- One shift with feedback f: each stage i with g_i = 1 becomes stage i-1 plus f, the others stage i-1; c comes into stage 0 in the place of a stage
-- below it.
unfoldable pub shifted : ℕ → ℕ → ℕ → List ℕ → List ℕ
shifted g f c [] = []
shifted g f c (s ∷ above) = sum c (g % 2 * f) ∷ shifted (g / 2) f s above

-- The top stage of r.
abbrev pub top : ℕ → List ℕ → ℕ
top r s = get_or s (r - 1) 0

-- With input c at the low side the feedback is the top stage, and stage 0 is the input plus g_0 f. (In a register of more stages than r those past
-- the top one stay 0: into stage r come the top stage and the feedback, which cancel, as g_r = 1.)
abbrev pub low_shift : ℕ → ℕ → ℕ → List ℕ → List ℕ
low_shift r g c s = shifted g (top r s) c s

-- With input c at the high side the feedback is the top stage plus the input, and stage 0 takes g_0 f.
abbrev pub high_shift : ℕ → ℕ → ℕ → List ℕ → List ℕ
high_shift r g c s = shifted g (sum (top r s) c) 0 s

-- p added to the register, stage by stage.
unfoldable pub added : ℕ → List ℕ → List ℕ
added p [] = []
added p (s ∷ above) = sum s (p % 2) ∷ added (p / 2) above
