-- Each part of `InForm` is tested once.
use Rattle.std.proofs.lemmas.Grind.{merely}
use Rattle.verdict.proofs.Verdict.{verdict_passed}
use Rattle.codes.specs.Mending.{rule_checks}
use Rattle.codes.specs.Row.{Given}
use Rattle.reader.proofs.Rows.{row_own}
use Rattle.reader.proofs.Form.{form_of, form_row}
use borrow.Author.Rules.{rules}
use native.Mathlib.Omega.{arith}
use mathlib.Core.Path.{◌≡◌, refl}
use Prim.Native.Nat.{ℕ}
use Rattle.reader.proofs.Formed.new.Goals as goal
use Rattle.reader.proofs.Formed.new.Goals.{then-not-row_fits-via-then-not-row_fits, then-not-row_fits-via-else-not-row_fits+then-not-row_fits-2}

-- the code's numbers are the reader's
own : {n g m h r : ℕ} → (m ≡ n) × (h ≡ g) → Given m h r → Given n g r
own (e, d) v = rw (e, d) at v

pub returns-then-not-row_fits-clause-none : goal.returns-then-not-row_fits-clause-none
returns-then-not-row_fits-clause-none c = λ f.
    elim c.then-not-row_fits.branch [
      | then-not-row_fits-via-then-not-row_fits w ↦
          c.row_fits.ensures.no w.if-not-row_fits.true (row_own (form_row f (own c.in-Ok.ensures.code c.in-Ok.code.given).degree))
      | then-not-row_fits-via-else-not-row_fits+then-not-row_fits-2 w ↦ w.row_fits-else-not-row_fits.ensures.no w.if-not-row_fits-2.true (row_own f.cells)
    ]

pub invariant_of-result : goal.invariant_of-result
invariant_of-result c =
    let r = c.args.reader in
    let given = own c.in-Ok.ensures.code c.in-Ok.code.given in
    record {
      own = c.in-Ok.ensures.code;
      form = merely
          (form_of (verdict_passed (rule_checks r.n r.g r.rule) tt c.in-Ok.ensures.checks refl) given.degree (search rules)
          (c.row_fits.ensures.yes c.if-not-row_fits.false) (search rules) (c.row_fits-else-not-row_fits.ensures.yes c.if-not-row_fits-2.false)
          (omega arith) (omega (arith, c.saturating_sub-past.ensures)));
    }
