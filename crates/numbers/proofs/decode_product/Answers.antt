-- The quotient of the code word found.
use mathlib.Core.Path.{refl}
use Rattle.codes.specs.Coding.{Product}
use Rattle.codes.proofs.Checking.{generator_pos}
use Rattle.codes.proofs.Coding.{quotient_product}
use Rattle.codes.proofs.Finding.{found_allowed, found_divides, done_decodes}
use Rattle.numbers.proofs.Fitting.{code_divided}
use Rattle.numbers.proofs.decode_product.Goals as goal

pub returns : goal.returns
returns c =
    let x = c.in_ok-x.ensures in
    let k = (found_allowed x refl).code in
    done_decodes x Product refl (quotient_product (generator_pos k.generator) (code_divided k c.divide_number-parts.ensures) (found_divides x refl))
