-- What the private functions promise each other, which a reader of the calls need not know. Assumes nothing.
use Rattle.std.specs.Prelude.{Bool, ℕ, ◌*◌, ◌<◌}
use Rattle.poly.specs.Poly.{Remainder}
use Rattle.verdict.specs.Verdict.{Tells}
use Rattle.codes.specs.Mending.{Pattern}
use Rattle.reader.specs.Reader.{register, Trigger}
use Rattle.reader.specs.declared.Reader.{Reader}

-- x cancelled: where s is the remainder of x p, t is that of p.
abbrev pub Halves : ℕ → ℕ → ℕ → Type 0
Halves g s t = (p : ℕ) → Remainder (p * 2) g s → Remainder p g t

-- Whether the register triggers, which is the same for every cell.
abbrev pub Triggers : Reader → Bool → Type 0
Triggers reader b = (i : ℕ) → i < reader.n → Tells (Trigger (Pattern reader.n reader.rule) reader.n reader.g i (register reader)) b
