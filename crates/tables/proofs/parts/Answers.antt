use Rattle.std.proofs.Common.{◌≡◌, ◌∙◌, arith, length-set}
use Rattle.codes.proofs.Checking.{set_more}
use Rattle.tables.specs.Tables.{Part}
use Rattle.tables.proofs.parts.Goals as goal

pub loop-j-preserved : goal.loop-j-preserved
loop-j-preserved c =
    let l = c.loop-j in
    (length-set l.t l.j c.next_part.result ∙ l.invariant.0, set_more Part l.t l.j c.next_part.result (omega (arith, l.invariant.0)) l.invariant.1 c.next_part.ensures)

pub returns : goal.returns
returns c =
    let l = c.loop-j in
    let end : l.j ≡ 3072 = omega arith in
    record { long = l.invariant.0; at = rw end at l.invariant.1 }
