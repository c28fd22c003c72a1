-- The cells are checked, and then the number that they stand for is divided.
use mathlib.Core.List.{[], ◌∷◌, ◌++◌}
use mathlib.Core.Path.{◌≡◌, refl}
use native.Mathlib.Omega.{arith}
use lib.ListN.{length}
use Rattle.poly.specs.Cells.{Cells, poly}
use Rattle.poly.proofs.Division.{remainder_of}
use Rattle.cells.specs.Lent.{cells_check}
use Rattle.verdict.proofs.Verdict.{passed_on, settles_yes}
use Rattle.codes.specs.Code.{code_checks}
use Rattle.codes.specs.Calls.{slice_check}
use Rattle.codes.proofs.Checking.{code_zero, of_code, generator_pos, generator_lt}
use Rattle.words.proofs.remainder.Goals as goal

pub returns : goal.returns
returns c =
    let a = c.args in
    let w = a.word.now in
    let k = code_zero c.in_ok-check_code.ensures refl in
    let last = slice_check a.n w ∷ cells_check w ∷ [] in
    let long : length w ≡ a.n = c.if-word-n.false in
    let fine : Cells w = c.in_ok-check.ensures in
    let stands : c.number_of.result ≡ poly w = c.number_of.ensures.holds (omega (arith, long, k.most), fine) in
    settles_yes (code_checks a.n a.g ++ last) tt (passed_on (code_checks a.n a.g) last (of_code k) (long, (fine, tt)))
    (rw stands at (remainder_of (c.divide_number-parts.ensures.holds (generator_pos k.generator, generator_lt k.generator))))
