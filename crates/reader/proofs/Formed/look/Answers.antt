-- The trigger decides, and what a mended reader has is written field by field.
use mathlib.Core.Logic.{inl}
use native.Mathlib.Omega.{arith}
use Rattle.reader.proofs.Form.{form_code, opened}
use Rattle.reader.proofs.Rounds.{halved_effect}
use Rattle.reader.proofs.Formed.look.Goals as goal

pub returns-then-triggers : goal.returns-then-triggers
returns-then-triggers c =
    inl (
      (c.triggers.ensures c.args.i c.requires).yes c.if-triggers.true,
      record {
        effect = c.halved.result;
        remainder = halved_effect (form_code (opened c.args.self.form)) c.halved.ensures;
        after = rw c.add-next.ensures;
      },
    )

pub halved-requires : goal.halved-requires
halved-requires c = (form_code (opened c.args.self.form)).generator.odd

pub overflow_add-next : goal.overflow_add-next
overflow_add-next c = let f = opened c.args.self.form in omega (arith, f.count, f.clocks, (form_code f).most)
