use native.Mathlib.Nat.{lt_of_lt_of_le}
use Rattle.verdict.proofs.Verdict.{tells_yes, tells_no}
use Rattle.codes.proofs.Row.{row_carries, row_collides}
use Rattle.codes.proofs.Code.carries.Goals as goal

pub returns-after-pairs : goal.returns-after-pairs
returns-after-pairs c =
    let p = c.pairs in
    rw p.invariant.0
    (tells_yes
    (row_carries c.args.rule c.args.self.given.least c.remainders-t.result c.pattern_count-m.result c.pattern_count-m.ensures.count
    c.remainders-t.ensures.at (λ y h. p.invariant.1 y (lt_of_lt_of_le h c.pairs-test.false))))

pub returns-then-t-i : goal.returns-then-t-i
returns-then-t-i c =
    tells_no
    (row_collides c.args.rule c.args.self.given.least c.remainders-t.result c.pattern_count-m.result c.pattern_count-m.ensures.count
    c.remainders-t.ensures.at c.loop-i.i c.pairs.j c.loop-i-test.true c.pairs-test.true c.if-t-i.true)
