-- Each entry from those before it in the same family.
use Rattle.std.proofs.Common.{◌-◌, ◌/◌, ◌%◌, arith}
use Rattle.tables.proofs.Plates.{plate_generator, plate_few, plate_degree}
use Rattle.tables.proofs.Entering.{family_bounds}
use Rattle.tables.proofs.Pieces.{piece_even, piece_next, part_none, part_one, part_odd, part_room, part_twice}
use Rattle.tables.proofs.next_part.Goals as goal

pub returns-then-b-eq0 : goal.returns-then-b-eq0
returns-then-b-eq0 c = part_none c.args.j c.if-b-eq0.true

pub returns-then-j-eq1 : goal.returns-then-j-eq1
returns-then-j-eq1 c = part_one c.args.j c.requires.0 c.if-j-eq1.true

pub doubled-requires : goal.doubled-requires
doubled-requires c =
    let p = c.at-plate.result in
    let j = c.args.j in (
      plate_degree p,
      (family_bounds p.family).0,
      plate_few p,
      part_room j 9 (piece_next (j % 256) (omega arith) (omega arith)) (omega arith) (c.requires.1 (j - 9) (omega arith)) (plate_generator p c.at-plate.ensures) (plate_degree p) (plate_few p),
    )

pub returns-then-b-eq1 : goal.returns-then-b-eq1
returns-then-b-eq1 c =
    let p = c.at-plate.result in
    let j = c.args.j in
    part_twice j 9 (piece_next (j % 256) (omega arith) (omega arith)) (omega arith) (c.requires.1 (j - 9) (omega arith)) (plate_generator p c.at-plate.ensures) (plate_degree p)
    c.doubled.ensures

pub doubled-requires-then-b-eq0-2 : goal.doubled-requires-then-b-eq0-2
doubled-requires-then-b-eq0-2 c =
    let p = c.at-plate.result in
    let j = c.args.j in (
      plate_degree p,
      (family_bounds p.family).0,
      plate_few p,
      part_room j (j % 16 / 2) (piece_even (j % 256) (j % 16 / 2) (omega arith)) (omega arith) (c.requires.1 (j - j % 16 / 2) (omega arith)) (plate_generator p c.at-plate.ensures)
          (plate_degree p) (plate_few p),
    )

pub returns-then-b-eq0-2 : goal.returns-then-b-eq0-2
returns-then-b-eq0-2 c =
    let p = c.at-plate.result in
    let j = c.args.j in
    part_twice j (j % 16 / 2) (piece_even (j % 256) (j % 16 / 2) (omega arith)) (omega arith) (c.requires.1 (j - j % 16 / 2) (omega arith)) (plate_generator p c.at-plate.ensures)
    (plate_degree p) c.doubled-then-b-eq0-2.ensures

pub returns : goal.returns
returns c =
    let j = c.args.j in
    part_odd j (omega arith) (omega arith) (c.requires.1 (j - 1) (omega arith)) (c.requires.1 (j - (j % 16 - 1)) (omega arith))
