use Rattle.std.proofs.Common.{⊎_elim, arith}
use Rattle.tables.proofs.Plates.{plate_degree}
use Rattle.tables.proofs.Entering.{family_bounds}
use Rattle.records.proofs.Answering.{tells_message, plate_code}
use Rattle.records.proofs.job.Job.allows.Goals as goal

pub overflow_sub-result : goal.overflow_sub-result
overflow_sub-result c = omega (arith, (family_bounds c.args.plate.family).2)

pub returns-then-rule-eq0 : goal.returns-then-rule-eq0
returns-then-rule-eq0 c =
    let p = c.args.plate in
    let t = tells_message (plate_code p) (plate_degree p) c.args.word c.if-rule-eq0.true in
    ⊎_elim (λ e. rw e t) (λ e. rw e t) c.in-E.is
