-- The entry of the remainder, if it is one of the rule.
use Rattle.std.proofs.Common.{arith}
use Rattle.tables.proofs.Plates.{plate_small, entry_within, place_has, place_none}
use Rattle.tables.proofs.Entering.{family_cells}
use Rattle.tables.proofs.Patterns.find.Goals as goal
use Rattle.tables.proofs.Patterns.find.Goals.{then-plate-rule-via-then-plate-rule, then-plate-rule-via-else-plate-rule+then-remainder-ge2048}

pub returns-then-plate-rule : goal.returns-then-plate-rule
returns-then-plate-rule c e h =
    elim c.then-plate-rule.branch [
      | then-plate-rule-via-then-plate-rule w ↦ omega (arith, h.0, w.if-plate-rule.true)
      | then-plate-rule-via-else-plate-rule+then-remainder-ge2048 w ↦ omega (arith, plate_small c.args.plate h.2, w.if-remainder-ge2048.true)
    ]

pub returns-then-plate-rule-2 : goal.returns-then-plate-rule-2
returns-then-plate-rule-2 c =
    place_none c.args.plate c.if-plate-rule.false c.self.invariant c.if-remainder-ge2048.false (rw c.from-k.ensures at c.if-plate-rule-2.true)

pub pattern-requires : goal.pattern-requires
pattern-requires c =
    let p = c.args.plate in
    let cells = family_cells p.family in
    (cells.0, cells.1, entry_within p c.if-plate-rule.false c.if-plate-rule-2.false)

pub returns : goal.returns
returns c =
    let same = c.from-k.ensures in
    rw (c.pattern.ensures, same)
    (place_has c.args.plate c.if-plate-rule.false c.self.invariant c.if-remainder-ge2048.false (rw same at c.if-plate-rule-2.false))
