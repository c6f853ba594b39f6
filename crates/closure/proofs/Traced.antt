-- A trace whose checks pass is what document 01's relations say.
use Rattle.std.specs.Prelude.{Ok}
use Prim.Native.Nat.{ℕ, ◌≤◌}
use mathlib.Core.Path.{◌≡◌}
use mathlib.Core.Logic.Iff
use mathlib.Core.Logic.{◌↔◌}
use mathlib.Core.List.{List, [], ◌∷◌, Memᴰ}
use Rattle.rows.specs.declared.Counts.{Counts}
use Rattle.rules.specs.Trail.{Tables, Trail, trail_of, none}
use Rattle.rules.specs.Start.{StartVersion, start_of}
use Rattle.rules.specs.Backward.{BackwardMarks, backward_arcs, backward_work, backward_entities, BackwardTrace}
use Rattle.rules.specs.Members.{OfAny, IsEarliest}
use Rattle.rules.specs.Forward.{ForwardMarks, MarkedFrom, IntakeFrom, forward_arcs, starts_of, forward_work, forward_entities, ForwardTrace}
use Rattle.rules.proofs.Members.{of_any_iff}
use Rattle.soundness.specs.Facts.{RowFacts}
use Rattle.closure.specs.Arcs.{AllBelow}
use Rattle.closure.specs.ByRelations.{Marking}
use Rattle.closure.proofs.Closed.{bits_closed}
use Rattle.closure.proofs.Start.{start_in}
use Rattle.closure.proofs.StartVersion.{start_of_is}
use Rattle.closure.proofs.Backward.{length-backward_work, backward_work_iff, backward_marks_in}
use Rattle.closure.proofs.Forward.{length-forward_work, forward_work_iff, forward_marks_in}
use Rattle.closure.proofs.FromStart.{marked_from, forward_intake_is}
use Rattle.closure.proofs.Checked.{passed_rows, versions_few, passed_entities, passed_entity, work_fits, marks-fit}
use Rattle.closure.proofs.Marking.{marking}
use Rattle.closure.proofs.TraceCalls.{trace_checked, backward_answered, forward_answered}

-- what the relations say of a trace that is not refused
abbrev pub BackwardTraced : Trail → ℕ → ℕ → List ℕ → List ℕ → BackwardTrace → Type 0
BackwardTraced T v time work marks b = (s : ℕ) × StartVersion T v time s × Marking T (BackwardMarks T s time) work marks b.work b.marks b.answer.count

abbrev pub ForwardTraced : Trail → List ℕ → ℕ → List ℕ → List ℕ → ForwardTrace → Type 0
ForwardTraced T us time work marks f =
    IsEarliest us (IntakeFrom T time) f.answer.intake × Marking T (OfAny us (MarkedFrom T time)) work marks f.work f.marks f.answer.count

module _ (c : Counts) (t : Tables) where
  abbrev T : Trail
  T = trail_of c t

  module _ (x time : ℕ) (work marks : List ℕ) (p : trace_checked c t (x ∷ []) work marks ≡ Ok tt) where
    pub backward_traced : BackwardTraced T x time work marks (backward_answered c t x time work marks)
    unfolding backward_entities backward_work
    backward_traced =
        let xs = x ∷ [] in
        let f = passed_rows c t xs work marks p in
        let h = passed_entity c t x work marks p in
        let s = start_of T x time in (
          s,
          start_of_is T f (versions_few c t xs work marks p) x time h,
          marking T f (BackwardMarks T s time) (backward_work T x time) (length-backward_work T x time) (bits_closed c.versions (backward_arcs T s time) (s ∷ []))
              (backward_work_iff T f x time h) (λ k d. backward_marks_in T s time f (start_in T f x time h) d) work marks (work_fits c t xs work marks p) (marks-fit c t xs work marks p),
        )

  module _ (us : List ℕ) (time : ℕ) (work marks : List ℕ) (p : trace_checked c t us work marks ≡ Ok tt) where
    f : RowFacts T
    f = passed_rows c t us work marks p

    few : c.versions ≤ none
    few = versions_few c t us work marks p

    h : AllBelow c.entities us
    h = passed_entities c t us work marks p

    pub forward_started : (u : ℕ) → Memᴰ u us → (s : ℕ) × StartVersion T u time s
    forward_started u m = (start_of T u time, start_of_is T f few u time (h u m))

    from_any : (w : ℕ) → OfAny us (MarkedFrom T time) w ↔ OfAny us (λ u. ForwardMarks T (start_of T u time)) w
    from_any w = of_any_iff us (MarkedFrom T time) (λ u. ForwardMarks T (start_of T u time)) w (λ u m. marked_from T f few time u (h u m) w)

    pub forward_traced : ForwardTraced T us time work marks (forward_answered c t us time work marks)
    unfolding forward_entities forward_work
    forward_traced = (
      forward_intake_is T f few time us h,
      marking T f (OfAny us (MarkedFrom T time)) (forward_work T us time) (length-forward_work T us time) (bits_closed c.versions (forward_arcs T) (starts_of T us time))
          (λ w. Iff.trans (forward_work_iff T f us time h w) (Iff.symm (from_any w)))
          (λ w z. let d = (from_any w).0 z in forward_marks_in T (start_of T d.0 time) f (start_in T f d.0 time (h d.0 d.1)) d.2)
          work marks (work_fits c t us work marks p) (marks-fit c t us work marks p),
    )
