-- The r low digits of quotient and remainder in one number.
use Rattle.std.proofs.Common.{arith}
use Rattle.tables.proofs.Packing.{packed_remainder}
use Rattle.tables.proofs.Entering.{family_bounds, one_shifted}
use Rattle.tables.proofs.Division.remainder.Goals as goal

pub overflow_shl-result : goal.overflow_shl-result
overflow_shl-result c = omega (arith, (family_bounds c.args.plate.family).1)

pub returns : goal.returns
returns c = rw (one_shifted c.args.plate.family) (packed_remainder c.divide.ensures)
