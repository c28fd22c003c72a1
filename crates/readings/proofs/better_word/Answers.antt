-- The choice as a number.
use Rattle.readings.proofs.Choosing.{picks_word}
use Rattle.readings.proofs.better_word.Goals as goal

pub returns-in-Ok : goal.returns-in-Ok
returns-in-Ok c = rw c.in-Ok.is at (picks_word c.choose.result c.choose.ensures)

pub returns-in-Err : goal.returns-in-Err
returns-in-Err c = rw c.in-Err.is at (picks_word c.choose.result c.choose.ensures)
