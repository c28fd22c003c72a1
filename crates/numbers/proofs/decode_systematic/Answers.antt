-- The first k cells of the code word found.
use mathlib.Core.Path.{refl}
use native.Mathlib.Omega.{arith}
use Rattle.codes.specs.Coding.{First}
use Rattle.codes.proofs.Checking.{generator_degree}
use Rattle.codes.proofs.Finding.{found_allowed, done_decodes}
use Rattle.numbers.proofs.Fitting.{code_few}
use Rattle.numbers.proofs.decode_systematic.Goals as goal

pub overflow_shr-result : goal.overflow_shr-result
overflow_shr-result c =
    let k = (found_allowed c.in_ok-x.ensures refl).code in
    omega (arith, code_few k (generator_degree k.generator c.degree_of.ensures))

pub returns : goal.returns
returns c =
    let x = c.in_ok-x.ensures in
    let d = generator_degree (found_allowed x refl).code.generator c.degree_of.ensures in
    done_decodes x First refl (record { r = c.degree_of.result; degree = d; cells = refl })
