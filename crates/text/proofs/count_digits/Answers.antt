-- The whole logarithm is one less than the count. 0 has as many digits as 1, of which it is taken.
use Rattle.std.proofs.Common.{◌≡◌, ◌∙◌, ◌≤◌, ◌<◌, sym, length, ⊎_elim, arith}
use Rattle.text.specs.Text.{decimal}
use Rattle.text.proofs.Order.{le_or_lt}
use Rattle.text.proofs.Decimal.{decimal_one, decimal_between}
use Rattle.text.proofs.count_digits.Goals as goal

pub returns : goal.returns
returns c =
    let v = c.args.value in
    let log = c.ilog10.ensures in
    let same : length (decimal c.max.result) ≡ length (decimal v) =
    ⊎_elim (λ (m : 1 ≤ v). let e : c.max.result ≡ v = omega arith in rw e)
    (λ (s : v < 1). let e : c.max.result ≡ 1 = omega arith in rw (e, decimal_one 1 (omega arith), decimal_one v (omega arith)))
    (le_or_lt 1 v) in
    sym (decimal_between c.ilog10.result c.max.result log.power_le log.next_power_gt) ∙ same
