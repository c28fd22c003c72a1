-- Each comparison is with what one of the patterns that have the cell leaves, and the rule says which of them there are.
use mathlib.Core.Path.{sym, ◌∙◌}
use Prim.Native.Nat.{ℕ, ◌-◌, ◌^◌}
use native.Mathlib.Omega.{arith}
use Rattle.std.proofs.lemmas.Bool.{eq-eqb}
use Rattle.poly.specs.Poly.{Remainder}
use Rattle.reader.specs.declared.Reader.{Reader}
use Rattle.reader.specs.Reader.{InForm}
use Rattle.reader.specs.Within.{Halves}
use Rattle.reader.proofs.Form.{form_code, opened}
use Rattle.reader.proofs.Rounds.{halved_effect, halved_next, told_never, told_alone, told_single, told_before, told_last}
use Rattle.reader.proofs.Formed.triggers.Goals as goal

-- what the register holds is compared with u, the remainder of x^(n-1)
effect : {reader : Reader} {u : ℕ} → InForm reader → Halves reader.g 1 u → Remainder (2 ^ (reader.n - 1)) reader.g u
effect f = halved_effect (form_code f)

pub returns-then-rule-eq0 : goal.returns-then-rule-eq0
returns-then-rule-eq0 c = told_never (form_code (opened c.args.self.form)) _ _ c.if-rule-eq0.true

pub held_in-s-requires : goal.held_in-s-requires
held_in-s-requires c = (opened c.args.self.form).stages.cells

pub halved-u-requires : goal.halved-u-requires
halved-u-requires c = (form_code (opened c.args.self.form)).generator.odd

pub halved-requires : goal.halved-requires
halved-requires c = (form_code (opened c.args.self.form)).generator.odd

pub returns-then-s-u : goal.returns-then-s-u
returns-then-s-u c =
    rw (eq-eqb _ _ c.if-s-u.true)
    (told_alone (form_code (opened c.args.self.form)) _ _ (effect (opened c.args.self.form) c.halved-u.ensures) (omega arith) (sym c.held_in-s.ensures ∙ c.if-s-u.true))

pub returns-then-s-u-2 : goal.returns-then-s-u-2
returns-then-s-u-2 c =
    rw (eq-eqb _ _ c.if-s-u-2.true)
    (told_before (form_code (opened c.args.self.form)) _ _ (effect (opened c.args.self.form) c.halved-u.ensures) (omega arith) (sym c.held_in-s.ensures ∙ c.if-s-u-2.true))

pub returns-else-s-u-2 : goal.returns-else-s-u-2
returns-else-s-u-2 c =
    let u = effect (opened c.args.self.form) c.halved-u.ensures in
    rw c.held_in-s.ensures
    (told_last (form_code (opened c.args.self.form)) _ _ u (halved_next (form_code (opened c.args.self.form)) u c.halved.ensures) (omega arith)
    (λ e. c.if-s-u.false (c.held_in-s.ensures ∙ e)) (λ e. c.if-s-u-2.false (c.held_in-s.ensures ∙ e)))

pub returns-else-rule-ne1 : goal.returns-else-rule-ne1
returns-else-rule-ne1 c =
    rw (eq-eqb _ _ c.if-rule-ne1.false)
    (told_single (form_code (opened c.args.self.form)) _ _ (effect (opened c.args.self.form) c.halved-u.ensures) c.if-rule-ne1.false (λ e. c.if-s-u.false (c.held_in-s.ensures ∙ e)))
