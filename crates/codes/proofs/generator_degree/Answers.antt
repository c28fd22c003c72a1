-- A generator has one degree, so that degree decides.
use native.Mathlib.Omega.{arith}
use Rattle.codes.proofs.Checking.{generator_r}
use Rattle.codes.proofs.generator_degree.Goals as goal
use Rattle.codes.proofs.generator_degree.Goals.{then-g-eq0-via-then-g-eq0, then-g-eq0-via-else-g-eq0+then-r-eq0, then-g-eq0-via-else-g-eq0+else-r-eq0+then-r-gt32, then-g-eq0-via-else-g-eq0+else-r-eq0+else-r-gt32+then-n-r}

pub returns-then-g-eq0-clause-none : goal.returns-then-g-eq0-clause-none
returns-then-g-eq0-clause-none c =
    elim c.then-g-eq0.branch [
      | then-g-eq0-via-then-g-eq0 w ↦ λ h. omega (arith, h.odd, w.if-g-eq0)
      | then-g-eq0-via-else-g-eq0+then-r-eq0 w ↦ λ h. omega (arith, h.least, generator_r h c.degree_of-r.ensures, w.if-r-eq0)
      | then-g-eq0-via-else-g-eq0+else-r-eq0+then-r-gt32 w ↦ λ h. omega (arith, h.most, generator_r h c.degree_of-r.ensures, w.if-r-gt32)
      | then-g-eq0-via-else-g-eq0+else-r-eq0+else-r-gt32+then-n-r w ↦ λ h. omega (arith, h.room, generator_r h c.degree_of-r.ensures, w.if-n-r)
    ]
