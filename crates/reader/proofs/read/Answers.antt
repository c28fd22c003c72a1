-- The checks before the run, and the answer of a reader that is reached by 2n clocks, which is the decoder's.
use mathlib.Core.List.{List, [], ◌∷◌, ◌++◌}
use mathlib.Core.Logic.{inl, inr}
use mathlib.Core.Path.{◌≡◌, refl}
use Prim.Native.Nat.{ℕ, suc, ◌<◌}
use Rattle.poly.specs.Poly.{Degree}
use Rattle.poly.specs.Cells.{poly}
use Rattle.verdict.specs.Verdict.{Check, Verdict, Passed, Where}
use Rattle.verdict.proofs.Verdict.{verdict_passed, verdict_on, settles_refused, refused_as}
use Rattle.cells.specs.Lent.{cells_check}
use Rattle.codes.specs.Mending.{rule_checks}
use Rattle.codes.specs.Coding.{First}
use Rattle.codes.specs.Calls.{DecodesCells, slices_check, readable_check}
use Rattle.codes.proofs.Checking.{allowed_of, generator_r, message_room, message_length}
use Rattle.reader.specs.Reader.{Starts}
use Rattle.reader.specs.declared.Reader.{Reader}
use Rattle.reader.proofs.Form.{found_degree}
use Rattle.reader.proofs.Run.{reached_last}
use Rattle.reader.proofs.Answering.{reader_decodes}
use native.Mathlib.Nat.{le_of_lt}
use native.Mathlib.Omega.{arith}
use Rattle.reader.proofs.read.Goals as goal
use Rattle.reader.proofs.read.Goals.{then-message-n-via-then-message-n, then-message-n-via-else-message-n+then-word-n}

-- the checks behind those of the code and the rule
later : (n g rule : ℕ) (message word : List ℕ) → List Check
later n g rule message word = slices_check n g message word ∷ cells_check word ∷ readable_check n g rule (poly word) ∷ []

-- where the checks of the start passed, the others decide
refused : (n g rule : ℕ) (message word : List ℕ) {m : ℕ} → Passed (rule_checks n g rule) → Verdict (later n g rule message word) (suc m)
    → DecodesCells First n g rule word message message (suc m) 0
unfolding later
refused n g rule message word {m} code v =
    settles_refused (rule_checks n g rule ++ later n g rule message word) tt (verdict_on (rule_checks n g rule) (later n g rule message word) (suc m) code v)
    (refl, refl)

-- a start that was done passed its checks
passed : {n g rule : ℕ} {first : Reader} → Starts n g rule (record { number = 0; reader = first }) → Passed (rule_checks n g rule)
passed {n} {g} {rule} s = verdict_passed (rule_checks n g rule) tt s.verdict refl

-- the generator's degree is below the length
below : {n g rule r : ℕ} → Passed (rule_checks n g rule) → Where (0 < g) (Degree g r) (r ≡ 0) → r < n
below code has = let gen = (allowed_of code).code.generator in omega (arith, generator_r gen has, gen.room)

pub overflow_sub-n : goal.overflow_sub-n
overflow_sub-n c = omega (arith, below (passed c.in_ok-first.ensures) c.degree_of.ensures)

pub returns-then-message-n : goal.returns-then-message-n
unfolding later
returns-then-message-n c =
    let a = c.args in
    let code = passed c.in_ok-first.ensures in
    refused a.n a.g a.rule a.message.now a.word.now code
    (inl (
      λ m.
          elim c.then-message-n.branch [
            | then-message-n-via-then-message-n w ↦ w.if-message-n.true (message_length (found_degree code c.degree_of.ensures) m.0)
            | then-message-n-via-else-message-n+then-word-n w ↦ w.if-word-n.true m.1
          ],
      refl,
    ))

pub returns-in_err-check : goal.returns-in_err-check
unfolding later
returns-in_err-check c =
    let a = c.args in
    let code = passed c.in_ok-first.ensures in
    rw (refused_as c.from_residual-in_err-check.result c.from_residual-in_err-check.ensures.1, c.in_err-check.ensures.0)
    (refused a.n a.g a.rule a.message.now a.word.now code
    (inr (
      (message_room (found_degree code c.degree_of.ensures) (le_of_lt (below code c.degree_of.ensures)) c.if-message-n.false, c.if-word-n.false),
      inl (c.in_err-check.ensures.1, refl),
    )))

pub returns : goal.returns
returns c =
    let a = c.args in
    let code = passed c.in_ok-first.ensures in
    reader_decodes code a.word.now c.if-word-n.false c.in_ok-check.ensures c.through.result
    (reached_last a.word.now c.through.result (c.in_ok-first.ensures.done refl) c.through.ensures)
    a.message.now c.answer.ensures
