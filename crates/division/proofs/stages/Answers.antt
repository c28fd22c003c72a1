-- A divisor has the degree that was found: 0 or above 32 is none.
use mathlib.Core.Path.{refl}
use mathlib.Core.Logic.{inl, inr}
use native.Mathlib.Omega.{arith}
use Rattle.poly.proofs.Degree.{degree_pos, degree_unique}
use Rattle.division.proofs.stages.Goals as goal

pub returns-then-r-gt32-clause-checked : goal.returns-then-r-gt32-clause-checked
returns-then-r-gt32-clause-checked c =
    let either = c.if-r-gt32.either in
    inr (omega arith, inl ((λ d. omega (arith, d.least, d.most, degree_unique (c.degree_of-r.ensures.holds (degree_pos d.degree)) d.degree)), refl))
