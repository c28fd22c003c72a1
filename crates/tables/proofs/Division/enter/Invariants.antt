-- The patterns are entered one after the other; a later one with the same remainder would take the place of an earlier one.
use Rattle.std.proofs.Common.{◌≡◌, ℕ, ◌+◌, ◌*◌, ◌<◌, length, get_or}
use Rattle.tables.specs.Tables.{Entered}
use Rattle.tables.proofs.Division.enter.Given as goal

abbrev pub invariant-loop-k : goal.invariant-loop-k
invariant-loop-k l =
    (length l.t ≡ 24576) × Entered l.plate.f l.plate.n l.k l.t
    × ((h s : ℕ) → h < 12 → s < 2048 → (h ≡ l.plate.f → ⊥) → get_or l.t (h * 2048 + s) 0 ≡ get_or l.initial.t (h * 2048 + s) 0)
