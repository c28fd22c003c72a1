use Rattle.std.proofs.Common.{sym}
use Rattle.tables.specs.Tables.{highest}
use Rattle.tables.proofs.Plates.{plate_long, plate_highest}
use Rattle.tables.proofs.Reading.{count_rule}
use Rattle.tables.proofs.Plate.patterns.Goals as goal

pub returns : goal.returns
returns c =
    let p = c.args.self in
    rw p.carried (sym (count_rule p.n (highest p.f) (plate_long p) (plate_highest p).1))
