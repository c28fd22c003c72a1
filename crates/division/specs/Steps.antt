-- The register of source 000 from zero: what is shown of it for every divisor and every word. Assumes nothing.
use Rattle.std.specs.Prelude.{◌≡◌, List, [], ◌∷◌, ◌++◌, ℕ, ◌*◌, ◌^◌, replicate}
use Rattle.poly.specs.Poly.{Remainder}
use Rattle.poly.specs.Cells.{poly}
use Rattle.poly.specs.Register.{held, top, low_shift, high_shift}
use Rattle.division.specs.Division.{Quotient}

-- The register after all cells, from s: input at the low side, and at the high side.
unfoldable pub low_run : ℕ → ℕ → List ℕ → List ℕ → List ℕ
low_run r g [] s = s
low_run r g (c ∷ w) s = low_run r g w (low_shift r g c s)

unfoldable pub high_run : ℕ → ℕ → List ℕ → List ℕ → List ℕ
high_run r g [] s = s
high_run r g (c ∷ w) s = high_run r g w (high_shift r g c s)

-- The outputs f in order, with input at the low side.
unfoldable pub outputs : ℕ → ℕ → List ℕ → List ℕ → List ℕ
outputs r g [] s = []
outputs r g (c ∷ w) s = top r s ∷ outputs r g w (low_shift r g c s)

-- a register of r stages at zero
abbrev pub zeros : ℕ → List ℕ
zeros r = replicate r 0

-- From zero, after all cells the register holds the remainder, and the outputs f in order are the quotient, as many cells as the dividend.
-- With input at the high side it holds the remainder of x^r times the input, which equals the low-side remainder of the same cells followed by
-- r zeros.
pub record Shown (r g : ℕ) (w : List ℕ) : Type 0 where
  pub low : Quotient w g (outputs r g w (zeros r)) (held (low_run r g w (zeros r)))
  pub high : Remainder (poly w * 2 ^ r) g (held (high_run r g w (zeros r)))
  pub same : high_run r g w (zeros r) ≡ low_run r g (w ++ zeros r) (zeros r)
