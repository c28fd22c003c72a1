-- The entry of a power of x.
use Rattle.std.proofs.Common.{◌≡◌, suc, ◌-◌, ap, ◌∙◌, arith}
use Rattle.codes.specs.Row.{pattern_at}
use Rattle.codes.proofs.Row.{at_single}
use Rattle.tables.proofs.Entering.{family_cells, family_bounds, one_shifted, digit-shifted, digit_bounds, power_remainder}
use Rattle.tables.proofs.Division.single.Goals as goal

pub bounds-self-inside-plate : goal.bounds-self-inside-plate
bounds-self-inside-plate c =
    let p = c.args.plate in
    omega (arith, p.family.row, family_cells p.family, digit_bounds (c.args.k - 1))

pub overflow_shl-result-2 : goal.overflow_shl-result-2
overflow_shl-result-2 c = omega (arith, (family_bounds c.args.plate.family).1)

pub returns : goal.returns
returns c =
    let k = c.args.k in
    let p = c.args.plate in
    let h = p.family in
    let place : k ≡ suc (k - 1) = omega arith in
    rw (p.generator, ap (pattern_at p.n) place ∙ at_single p.n (k - 1) (omega arith), digit-shifted (k - 1), one_shifted h)
    (power_remainder c.self.inside.parts (k - 1) c.self.invariant h (omega (arith, family_cells h)))
