-- What is written into lent cells stands for the word of the message, by either rule: the laws of `Coding` in src/. Assumes nothing.
use mathlib.Core.Path.{◌≡◌, ◌∙◌}
use Prim.Native.Nat.{ℕ, ◌-◌, ◌^◌, ◌<◌}
use native.Mathlib.Nat.{mod-eq_of_lt}
use native.Mathlib.Omega.{arith}
use lib.ListN.{length, length-append}
use lib.Pow.{split}
use Rattle.poly.specs.Cells.{poly, cells}
use Rattle.poly.proofs.Degree.{degree_unique}
use Rattle.poly.proofs.Cells.{poly_lt, poly-append, poly-cells, length-cells, cells-cells, cells-append}
use Rattle.codes.specs.Coding.{Systematic, Product}
use Rattle.codes.specs.Calls.{MessageFits, Written}
use Rattle.codes.proofs.Coding.{systematic_first, product_word}
use Rattle.words.specs.Within.{written_systematic, written_product, Stands}

-- the n digits of a number
pub written_cells : (k c : ℕ) → c < 2 ^ k → Written k (cells k c) c
written_cells k c l = record { long = length-cells k c; cells = cells-cells k c; stands = poly-cells k c ∙ mod-eq_of_lt l }

-- the message's cells, then the check cells
pub systematic_stands : Stands Systematic written_systematic
systematic_stands n g c message word h l k e =
    let f = systematic_first h in
    let r : length word - length message ≡ f.r = omega (arith, e, l.whole, degree_unique l.degree f.degree) in
    record {
      long = rw (length-append message (cells (length word - length message) c), length-cells (length word - length message) c) (omega (arith, e, l.whole));
      cells = cells-append message (cells (length word - length message) c) k (cells-cells (length word - length message) c);
      stands =
          rw (
            poly-append message (cells (length word - length message) c),
            length-cells (length word - length message) c,
            poly-cells (length word - length message) c,
            f.cells,
            r,
          ) (split c f.r);
    }

-- the digits of the product
pub product_stands : Stands Product written_product
product_stands n g c message word h l k e =
    let fits : MessageFits n g (poly message) = record { k = length message; long = l; below = poly_lt message k } in
    rw e (written_cells n c (rw h (product_word fits).below))
