-- Lengths first, then the cells.
use mathlib.Core.Logic.{inl, inr}
use mathlib.Core.Path.{refl}
use Rattle.words.proofs.Lending.{length_room, length_right, message_wrong, word_wrong}
use Prim.Native.Nat.{ℕ}
use borrow.Author.Rules.{rules}
use lib.Seq.{take-length}
use native.Mathlib.Omega.{arith}
use Rattle.poly.specs.Cells.{Cells}
use Rattle.words.proofs.lent.Goals as goal
use Rattle.words.proofs.lent.Goals.{then-message_len-n-via-then-message_len-n, then-message_len-n-via-else-message_len-n+then-word_len-n}

pub overflow_sub-n : goal.overflow_sub-n
overflow_sub-n c = length_room c.requires c.degree_of.ensures

pub returns-then-message_len-n : goal.returns-then-message_len-n
returns-then-message_len-n c =
    inl (
      (elim c.then-message_len-n.branch [
        | then-message_len-n-via-then-message_len-n w ↦ message_wrong c.requires c.degree_of.ensures w.if-message_len-n.true
        | then-message_len-n-via-else-message_len-n+then-word_len-n w ↦ word_wrong w.if-word_len-n.true
      ]),
      refl,
    )

pub returns-in_err-check : goal.returns-in_err-check
returns-in_err-check c =
    let bad : Cells c.args.input.now → ⊥ = grind (arith, take-length {A = ℕ}) in
    inr ((length_right c.requires c.degree_of.ensures c.if-message_len-n.false, c.if-word_len-n.false), inl (bad, search rules))

pub returns : goal.returns
returns c =
    let fine : Cells c.args.input.now = grind (arith, take-length {A = ℕ}) in
    inr ((length_right c.requires c.degree_of.ensures c.if-message_len-n.false, c.if-word_len-n.false), inr (fine, refl))
