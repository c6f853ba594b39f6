-- The answer and the buffers of a backward trace are those of document 01.
use Rattle.std.specs.Prelude.{Ok}
use Prim.Native.Nat.{ℕ}
use mathlib.Core.Path.{◌≡◌, sym, ◌∙◌, ap}
use mathlib.Core.List.{List, [], ◌∷◌, ◌++◌}
use lib.ListN.{take, drop}
use Rattle.refusals.specs.Refusals.{Checked}
use Rattle.refusals.specs.Refusals.{first_of}
use Rattle.rows.specs.declared.Counts.{Counts}
use Rattle.rows.specs.declared.VersionNo.{VersionNo}
use Rattle.rules.specs.Trail.{Trail, tables, trail_of}
use Rattle.rules.specs.Start.{start_of}
use Rattle.rules.specs.Backward.{trace_checks, backward_work, backward_entities, backward_of, backward_trace}
use Rattle.closure.proofs.Backward.{length-backward_work}
use Rattle.closure.proofs.Checked.{passed_rows, passed_entity}
use Rattle.closure.proofs.TraceCalls.{backward_of_passed}
use Rattle.passes.specs.TraceArcs.{marked_back}
use Rattle.marks.specs.Owners.{EntitiesMarked}
use Rattle.trace.proofs.BackMarks.{work_back}
use Rattle.trace.proofs.Buffers.{left_work, left-marks}

module _ (c : Counts) (es vs ds : List ℕ) (x t : ℕ) (work marks : List ℕ) where
  abbrev checked : Checked
  checked = first_of (trace_checks c (tables es vs ds) (x ∷ []) work marks)

  abbrev T : Trail
  T = trail_of c (tables es vs ds)

  module _ (p : checked ≡ Ok tt) where
    module _
        (s : VersionNo)
        (part marks' : List ℕ)
        (n : ℕ)
        (qs : s.0 ≡ start_of T x t)
        (qw : part ≡ marked_back T s.0 t)
        (qm : EntitiesMarked T (take c.versions (part ++ drop c.versions work)) marks n marks')
      where
        marked : part ≡ backward_work T x t
        marked =
            qw ∙ ap (λ v. marked_back T v t) qs ∙ work_back T (passed_rows c (tables es vs ds) (x ∷ []) work marks p) x t (passed_entity c (tables es vs ds) x work marks p)

        pub backward_passed : backward_trace (record { refusal = 0; count = n }) (part ++ drop c.versions work) marks' ≡ backward_of c (tables es vs ds) x t work marks
        unfolding backward_entities
        backward_passed =
            let l = length-backward_work T x t in
            let w = left_work T (backward_work T x t) work l part marked in
            let m = left-marks T (backward_work T x t) work l part marked marks marks' n qm in
            (λ i. backward_trace (record { refusal = 0; count = m.count i }) (w i) (m.marks i)) ∙ sym (backward_of_passed c (tables es vs ds) x t work marks p)
