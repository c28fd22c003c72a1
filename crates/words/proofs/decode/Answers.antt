-- The message on numbers, written as k cells.
use mathlib.Core.Path.{refl}
use lib.ListN.{length}
use Rattle.verdict.proofs.Verdict.{number_of_nonzero, refused_as}
use Rattle.words.specs.Writing.{written_cells}
use Rattle.words.proofs.Lending.{decode_unread, decode_decoded, decode_length, decode_done}
use Rattle.words.proofs.decode.Goals as goal

pub returns-in_err-decoding : goal.returns-in_err-decoding
returns-in_err-decoding g c =
    let a = c.args in
    let e = c.in_err-decoding.field-0.0 in
    let x = rw c.in_err-decoding.was at c.decode-x.ensures in
    let late = rw c.in_err-decoding.was at c.in_ok-early.ensures.late in
    rw (refused_as c.from_residual-in_err-decoding.result c.from_residual-in_err-decoding.ensures.1)
    (decode_unread g.C.Coding.says a.word.now a.message.now x late c.in_ok-lent.ensures refl c.number_of.ensures (number_of_nonzero e))

pub returns : goal.returns
returns g c =
    let w = c.args.word.now in
    let m = c.args.message.now in
    let x = rw c.in_ok-decoding.was at c.decode-x.ensures in
    let late = rw c.in_ok-decoding.was at c.in_ok-early.ensures.late in
    let d = c.in_ok-decoding.decoding in
    let v = c.in_ok-lent.ensures in
    let p = c.number_of.ensures in
    let y = decode_decoded g.C.Coding.says w m x late v refl p refl in
    let k = decode_length g.C.Coding.says w m x late v refl p in
    decode_done g.C.Coding.says w m x late v refl p refl
    (rw c.write_number.ensures (written_cells (length m) d.message (g.met.C.Coding.fits c.args.n c.args.g y.code d.message (length m) y.mends.code k y.message)))
