-- The choice has the number.
use Rattle.verdict.proofs.Verdict.{refused_as}
use Rattle.readings.proofs.Choosing.{number_chosen}
use Rattle.readings.proofs.better_number.Goals as goal

pub returns-in_err-choose : goal.returns-in_err-choose
returns-in_err-choose c =
    rw (refused_as c.from_residual.result c.from_residual.ensures.1) (number_chosen c.args.first.now c.args.second.now c.in_err-choose.ensures)

pub returns : goal.returns
returns c = number_chosen c.args.first.now c.args.second.now c.in_ok-choose.ensures
