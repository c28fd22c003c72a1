use Rattle.std.proofs.Common.{◌≡◌, arith}
use Rattle.tables.proofs.Reading.{word_none, word_more, word_all}
use Rattle.tables.proofs.Division.divide.Goals as goal

pub loop-i-init : goal.loop-i-init
loop-i-init c = word_none c.args.plate.f c.args.word

pub loop-i-preserved : goal.loop-i-preserved
loop-i-preserved c =
    let l = c.loop-i in
    let p = c.args.plate in
    word_more p.f c.args.word c.self.inside.parts l.i l.e c.self.invariant p.family.row (omega arith) l.invariant

pub returns : goal.returns
returns c =
    let l = c.loop-i in
    let p = c.args.plate in
    let end : l.i ≡ 16 = omega arith in
    rw p.generator (word_all p.f c.args.word c.ranges.word.fits (rw end at l.invariant) p.r p.family.degree)
