use Rattle.std.proofs.Common.{ℕ, ◌+◌, ◌*◌, get_or, replicate, arith}
use Rattle.std.proofs.Math.Nat.{not-suc-le-zero}
use Rattle.std.proofs.lemmas.List.{length-replicate, get_or-replicate}
use Rattle.families.specs.Families.{lengths}
use Rattle.tables.proofs.Entering.{entered_none, filled_more}
use Rattle.tables.proofs.Division.places.Goals as goal

pub loop-f-init : goal.loop-f-init
loop-f-init c = record {
  long = length-replicate {A = ℕ} 24576 255;
  below = λ h b. absurd (not-suc-le-zero b);
  above = λ h a b. entered_none h (get_or lengths h 0) (replicate 24576 255) λ s m. get_or-replicate {A = ℕ} 24576 (h * 2048 + s) 255 0 (omega arith);
}

pub loop-f-preserved : goal.loop-f-preserved
loop-f-preserved c =
    let l = c.loop-f in
    let e = c.enter.ensures in
    let here = c.at.ensures in
    filled_more l.f l.t _ (omega arith) e.entered.0 (rw (c.at.result.family.length, here) at e.entered.1) (rw here at e.others) l.invariant
