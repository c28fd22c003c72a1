use mathlib.Core.Path.{sym, ◌∙◌}
use Prim.Native.Nat.{◌-◌}
use native.Mathlib.Omega.{arith}
use Rattle.poly.proofs.Coefficient.{coefficient_lt}
use Rattle.poly.proofs.Products.{product_none, product_lt, product_next}
use Rattle.poly.proofs.long_product.Goals as goal

pub loop-i-init : goal.loop-i-init
loop-i-init c = let a = c.args in (omega arith, sym (product_none a.p a.q a.d a.e c.requires.0 c.requires.1 _ (omega arith)))

pub digit_times-t-requires : goal.digit_times-t-requires
digit_times-t-requires c =
    let l = c.loop-i in
    let a = c.args in
    (rw l.invariant.1 (product_lt a.p a.q a.d a.e c.requires.0 c.requires.1 l.i c.requires.2 (omega arith) l.invariant.0), coefficient_lt a.p (l.i - 1))

pub loop-i-preserved : goal.loop-i-preserved
loop-i-preserved c =
    let l = c.loop-i in
    let a = c.args in
    (omega arith, c.digit_times-t.ensures ∙ rw l.invariant.1 (product_next a.p a.q l.i (omega arith)))
