use mathlib.Core.Path.{◌≡◌, refl}
use native.Mathlib.Numerals.{add-one}
use lib.ListN.{get_or}
use Rattle.std.proofs.lemmas.Grind.{common_steps}
use native.Mathlib.Omega.{arith}
use Rattle.reader.specs.Reader.{clocked}
use Rattle.reader.proofs.through.Goals as goal

pub loop-i-preserved : goal.loop-i-preserved
loop-i-preserved c =
    let l = c.loop-i in
    let cell : c.unwrap_or.result ≡ get_or c.args.word.now l.i 0 = grind (arith, common_steps) in
    rw (add-one l.i) (l.reader, clocked c.clock.result, l.invariant, rw cell at c.clock.ensures, refl)
