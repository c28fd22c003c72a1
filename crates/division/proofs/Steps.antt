-- The register of source 000 gives quotient and remainder: stage by stage, for every divisor and every word.
-- Assumes nothing.
use mathlib.Core.Path.{◌≡◌, sym, ap, ◌∙◌}
use mathlib.Core.List.{List, [], ◌∷◌, ◌++◌, append-nil}
use Prim.Native.Nat.{ℕ, zero, suc, ◌-◌, ◌^◌, ◌≤◌, ◌<◌}
use native.Mathlib.Nat.{not-suc-le-zero}
use native.Mathlib.Omega.{arith}
use lib.Dec.{lit<}
use lib.ListN.{length, length-replicate}
use lib.Seq.{append_snoc, ext_get_or}
use Rattle.poly.specs.Poly.{coefficient, Degree}
use Rattle.poly.specs.Cells.{Cells}
use Rattle.poly.specs.Register.{held, top, low_shift, high_shift}
use Rattle.poly.proofs.Cells.{cells-append}
use Rattle.poly.proofs.Stages.{held_lt, held_at, held_zeros, length-shifted, held_low, held_high, cells_low, cells-high}
use Rattle.poly.proofs.Words.{high_side}
use Rattle.division.specs.Division.{Quotient, HighSide}
use Rattle.division.specs.Steps.{low_run, high_run, outputs, zeros, Shown}
use Rattle.division.proofs.Growing.{quotient_remainder, quotient_empty, quotient_snoc, high_empty, high_snoc, high_remainder}

-- zeros are cells
cells_zeros : (n : ℕ) → Cells (zeros n)
cells_zeros zero i = lit< tt
cells_zeros (suc n) zero = lit< tt
cells_zeros (suc n) (suc i) = cells_zeros n i

-- r stages, each 0 or 1
record Register (r : ℕ) (s : List ℕ) : Type 0 where
  long : length s ≡ r
  cells : Cells s

-- hold a number below 2 ^ r
register_lt : {r : ℕ} {s : List ℕ} → Register r s → held s < 2 ^ r
register_lt {s = s} a = rw a.long at (held_lt s a.cells)

-- and are known by it
register_same : {r : ℕ} {s t : List ℕ} → Register r s → Register r t → held s ≡ held t → s ≡ t
register_same {r} {s} {t} a b e =
    ext_get_or 0 s t (a.long ∙ sym b.long) λ i l.
    held_at s i a.cells ∙ ap (λ (p : ℕ). coefficient p i) e ∙ sym (held_at t i b.cells)

module _ {g : ℕ} (d : ℕ) (h : Degree g (suc d)) where
  -- at the low side: s after v, with the outputs q
  low_run_lem : (w v q s : List ℕ) → Cells w → Register (suc d) s → Quotient v g q (held s)
      → Register (suc d) (low_run (suc d) g w s) × Quotient (v ++ w) g (q ++ outputs (suc d) g w s) (held (low_run (suc d) g w s))
  unfolding low_run outputs
  low_run_lem [] v q s k a x = (a, rw (append-nil, append-nil) x)
  low_run_lem (c ∷ w) v q s k a x =
      rw (append_snoc v c w, append_snoc q (top (suc d) s) (outputs (suc d) g w (low_shift (suc d) g c s))) at
      (low_run_lem w (v ++ (c ∷ [])) (q ++ (top (suc d) s ∷ [])) (low_shift (suc d) g c s) (λ i. k (suc i)) next after)
    where
      next : Register (suc d) (low_shift (suc d) g c s)
      next = record {
        long = length-shifted g (top (suc d) s) c s ∙ a.long;
        cells = cells_low d h c (k 0) s a.cells (register_lt a) (omega (arith, a.long));
      }

      after : Quotient (v ++ (c ∷ [])) g (q ++ (top (suc d) s ∷ [])) (held (low_shift (suc d) g c s))
      after =
          rw (held_low d h c (k 0) s a.cells (register_lt a) (omega (arith, a.long)), held_at s (suc d - 1) a.cells)
          (quotient_snoc h (omega arith) c (k 0) x)

  -- at the high side
  high_run_lem : (w v s : List ℕ) → Cells w → Register (suc d) s → HighSide v g (held s)
      → Register (suc d) (high_run (suc d) g w s) × HighSide (v ++ w) g (held (high_run (suc d) g w s))
  unfolding high_run
  high_run_lem [] v s k a x = (a, rw append-nil x)
  high_run_lem (c ∷ w) v s k a x =
      rw (append_snoc v c w) at (high_run_lem w (v ++ (c ∷ [])) (high_shift (suc d) g c s) (λ i. k (suc i)) next after)
    where
      next : Register (suc d) (high_shift (suc d) g c s)
      next = record {
        long = length-shifted g _ 0 s ∙ a.long;
        cells = cells-high d h c (k 0) s a.cells (register_lt a) a.long;
      }

      after : HighSide (v ++ (c ∷ [])) g (held (high_shift (suc d) g c s))
      after = rw (held_high d h c (k 0) s a.cells (register_lt a) a.long) (high_snoc h v c (k 0) x)

  -- both from zero
  from_zero : Register (suc d) (zeros (suc d))
  from_zero = record { long = length-replicate (suc d) 0; cells = cells_zeros (suc d) }

  low_end : (w : List ℕ) → Cells w → Register (suc d) (low_run (suc d) g w (zeros (suc d)))
      × Quotient w g (outputs (suc d) g w (zeros (suc d))) (held (low_run (suc d) g w (zeros (suc d))))
  low_end w k = low_run_lem w [] [] (zeros (suc d)) k from_zero (rw (held_zeros (suc d)) (quotient_empty h))

  shown : (w : List ℕ) → Cells w → Shown (suc d) g w
  shown w k =
      let lo = low_end (w ++ zeros (suc d)) (cells-append w (zeros (suc d)) k (cells_zeros (suc d))) in
      let hi = high_run_lem w [] (zeros (suc d)) k from_zero (rw (held_zeros (suc d)) (high_empty h)) in
      let high = high_remainder h hi.1 in
      record {
        low = (low_end w k).1;
        high = high;
        same = register_same hi.0 lo.0 (high_side w (suc d) high (quotient_remainder lo.1));
      }

-- what is shown, for every divisor with a stage or more, odd or even
pub register_shown : {r g : ℕ} → Degree g r → 1 ≤ r → (w : List ℕ) → Cells w → Shown r g w
register_shown {r = zero} h l w k = absurd (not-suc-le-zero l)
register_shown {r = suc d} h l w k = shown d h w k
