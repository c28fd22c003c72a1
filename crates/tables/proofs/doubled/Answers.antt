-- By the digit at the top of the remainder.
use mathlib.Core.Path.{◌≡◌, ◌∙◌}
use Prim.Native.Nat.{◌*◌, ◌%◌, ◌^◌}
use native.Mathlib.Nat.{one-mul}
use native.Mathlib.Omega.{arith}
use lib.Dec.{lit<}
use lib.Pow.{shl_exact}
use Rattle.tables.proofs.Packing.{doubled_even, doubled_odd}
use Rattle.tables.proofs.doubled.Goals as goal

pub returns-then-e-r-eq0 : goal.returns-then-e-r-eq0
returns-then-e-r-eq0 c p a = doubled_even c.requires.1 c.if-e-r-eq0.true a

pub returns : goal.returns
returns c p a =
    let r = c.args.r in
    let shifted : 1 * 2 ^ r % 2 ^ 64 ≡ 2 ^ r = shl_exact 1 r 64 (lit< tt) (omega arith) ∙ one-mul (2 ^ r) in
    rw shifted (doubled_odd c.requires.1 (omega (arith, c.if-e-r-eq0.false)) a)
