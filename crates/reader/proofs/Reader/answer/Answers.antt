-- The checks 11, 6 and 8 in their order, and nothing is written before the last has passed.
use mathlib.Core.List.{List, [], ◌∷◌}
use mathlib.Core.Logic.{inl, inr}
use mathlib.Core.Path.{◌≡◌, refl, sym, ◌∙◌}
use Prim.Native.Nat.{ℕ, ◌<◌}
use native.Mathlib.Nat.{le_of_lt}
use Rattle.verdict.specs.Verdict.{Check}
use Rattle.verdict.proofs.Verdict.{settles_refused, settles_yes}
use Rattle.codes.specs.Row.{Given}
use Rattle.codes.proofs.Checking.{message_room, message_length}
use Rattle.reader.specs.declared.Reader.{Reader}
use Rattle.reader.specs.declared.Formed.{Formed}
use Rattle.reader.specs.Reader.{InForm, answer_check, message_check, empty_check}
use Rattle.reader.proofs.Form.{opened_own}
use Rattle.reader.proofs.Reader.answer.Goals as goal

-- the checks of a call
checks : Reader → List ℕ → List Check
checks reader message = answer_check reader ∷ message_check reader message ∷ empty_check reader ∷ []

-- what is known of the reader that was found in form is known of the one that was given
own : {reader : Reader} (f : Formed) → f.reader ≡ reader → InForm reader × Given reader.n reader.g f.code.r × (f.code.r < reader.n)
own f e = (opened_own e f.form, rw (f.own.0, f.own.1, e) at f.code.given, rw (f.own.0, e) at f.code.room)

pub returns-then-message-self : goal.returns-then-message-self
unfolding checks
returns-then-message-self c =
    let k = own c.in_ok-formed.formed (rw c.in_ok-formed.ensures.ok_part at c.new.ensures.some) in
    settles_refused (checks c.args.self c.args.message.now) tt
    (inr ((k.0, c.if-self.false), inl (λ m. c.if-message-self.true (message_length k.1.degree m), refl))) (refl, refl)

pub held_in-requires : goal.held_in-requires
held_in-requires c = (own c.in_ok-formed.formed (rw c.in_ok-formed.ensures.ok_part at c.new.ensures.some)).0.stages.cells

pub returns-then-held_in-ne0 : goal.returns-then-held_in-ne0
unfolding checks
returns-then-held_in-ne0 c =
    let k = own c.in_ok-formed.formed (rw c.in_ok-formed.ensures.ok_part at c.new.ensures.some) in
    settles_refused (checks c.args.self c.args.message.now) tt
    (inr (
      (k.0, c.if-self.false),
      inr (message_room k.1.degree (le_of_lt k.2) c.if-message-self.false, inl (λ z. c.if-held_in-ne0.true (c.held_in.ensures ∙ z), refl)),
    )) (refl, refl)

pub returns : goal.returns
unfolding checks
returns c =
    let k = own c.in_ok-formed.formed (rw c.in_ok-formed.ensures.ok_part at c.new.ensures.some) in
    settles_yes (checks c.args.self c.args.message.now) tt
    ((k.0, c.if-self.false), (message_room k.1.degree (le_of_lt k.2) c.if-message-self.false, (sym c.held_in.ensures ∙ c.if-held_in-ne0.false, tt)))
    (c.copy_first.ensures, refl)
