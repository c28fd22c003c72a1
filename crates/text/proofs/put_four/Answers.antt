use Rattle.std.proofs.Common.{◌≡◌, ◌+◌, ◌-◌, ◌%◌, refl, arith}
use Rattle.std.proofs.lemmas.List.{drop-drop}
use Rattle.text.proofs.Decimal.{lowest_four}
use Rattle.text.proofs.put_four.Goals as goal

pub returns : goal.returns
returns c =
    let at = c.args.at in
    let four : at + 4 - at ≡ 4 = omega arith in
    rw (lowest_four c.args.v (c.args.v % 10000) refl, four, c.copy_from_slice.ensures.after, drop-drop)
