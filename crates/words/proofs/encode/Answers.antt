-- With right cells the call on numbers is not refused.
use mathlib.Core.Path.{refl}
use Rattle.verdict.proofs.Verdict.{number_of_nonzero}
use Rattle.words.proofs.Lending.{encode_zero}
use Rattle.words.proofs.encode.Goals as goal

pub returns-in_err-x : goal.returns-in_err-x
returns-in_err-x g c =
    let a = c.args in
    absurd (number_of_nonzero c.in_err-x.field-0.0
    (rw c.in_err-x.was at (encode_zero g.C.Coding.encoded a.message.now a.word.now c.encode-x.ensures c.in_ok-early.ensures.late c.in_ok-lent.ensures refl c.number_of.ensures)))
