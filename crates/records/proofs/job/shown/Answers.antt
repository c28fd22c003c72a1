-- A letter that asks for none of the five jobs is none of the five.
use Rattle.std.proofs.Common.{◌≡◌, ℕ, false, Result, Ok, Err, ne_eqb, sym, ◌∙◌, rules}
use Rattle.std.specs.Result.{is_ok}
use Rattle.verdict.specs.declared.Refusal.{Refusal}
use Rattle.records.specs.Records.{Job, E, P, S, D, Q, shown}
use Rattle.records.specs.Steps.{Asks}
use Rattle.records.proofs.job.shown.Goals as goal

unknown : (letter : ℕ) (r : Result Job Refusal) → Asks letter r → false ≡ is_ok r → 63 ≡ shown letter
unknown letter (Ok job) a e = search rules
unknown letter (Err x) a e = rw (ne_eqb _ _ (a.1 E), ne_eqb _ _ (a.1 P), ne_eqb _ _ (a.1 S), ne_eqb _ _ (a.1 D), ne_eqb _ _ (a.1 Q))

pub returns-else-is_ok : goal.returns-else-is_ok
returns-else-is_ok c = unknown c.args.letter c.try_from.result c.try_from.ensures (sym c.if-is_ok.false ∙ c.is_ok.ensures.value)
