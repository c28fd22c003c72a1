-- By what stands at the place.
use mathlib.Core.Path.{sym}
use Prim.Native.Nat.{◌-◌}
use native.Mathlib.Omega.{arith}
use Rattle.tables.proofs.Row.{power_shifted, row_none, row_single, row_pair, row_ends}
use Rattle.tables.proofs.pattern.Goals as goal

pub returns-in-0 : goal.returns-in-0
returns-in-0 c = sym (row_none c.args.n c.args.k c.in-0.is)

pub returns-in_default : goal.returns-in_default
returns-in_default c =
    let a = c.args in
    rw (power_shifted (a.k - 1) (omega arith)) (sym (row_single a.n a.k (omega arith) (omega arith)))

pub returns-in_default-2 : goal.returns-in_default-2
returns-in_default-2 c =
    let a = c.args in
    rw (power_shifted (a.k - a.n) (omega arith), power_shifted (a.k - a.n - 1) (omega arith)) (sym (row_pair a.n a.k (omega arith) (omega arith)))

pub returns-in_default-3 : goal.returns-in_default-3
returns-in_default-3 c =
    let a = c.args in
    rw (power_shifted (a.n - 1) (omega arith)) (sym (row_ends a.n a.k (omega arith) (omega arith)))
