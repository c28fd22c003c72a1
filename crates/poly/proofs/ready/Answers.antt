-- g has degree r exactly if 1 stands from digit r on, and s is below 2^r exactly if nothing does.
use native.Mathlib.Omega.{arith}
use native.Mathlib.Nat.{div-eq_of_lt}
use Rattle.verdict.proofs.Verdict.{tells_no}
use Rattle.poly.proofs.Degree.{degree_top}
use Rattle.poly.proofs.ready.Goals as goal

pub returns-else-s-r-eq0 : goal.returns-else-s-r-eq0
returns-else-s-r-eq0 c = rw c.if-s-r-eq0.false (tells_no λ h. grind (arith, h.most, degree_top h.degree, div-eq_of_lt h.register))
