-- The work buffer of a backward trace is the one of document 01.
use Prim.Native.Nat.{ℕ, ◌<◌}
use mathlib.Core.Path.{◌≡◌}
use mathlib.Core.Logic.{◌↔◌}
use mathlib.Core.List.Memᴰ
use mathlib.Core.List.{[], ◌∷◌, Memᴰ}
use Rattle.rules.specs.Trail.{Trail}
use Rattle.rules.specs.Start.{start_of}
use Rattle.rules.specs.Marks.{Arc, arc}
use Rattle.rules.specs.Backward.{is_followed, backward_arcs, backward_work}
use Rattle.soundness.specs.Facts.{RowFacts}
use Rattle.closure.proofs.Closed.{closed_same}
use Rattle.closure.proofs.Start.{start_in}
use Rattle.closure.proofs.TraceArcs.{has_previous, edges_back-collected, steps_back-collected}
use Rattle.closure.proofs.Backward.{backward_arcs_ends}
use Rattle.passes.specs.Followed.{down}
use Rattle.passes.specs.TraceArcs.{step_back, source_back, edge_back, first_back, later_back, marked_back}
use Rattle.passes.proofs.Members.{down_iff, arcs_of}

module _ (T : Trail) (f : RowFacts T) where
  members : (s t : ℕ) (x : Arc)
      → (Memᴰ x (first_back T s t) → Memᴰ x (backward_arcs T s t))
      × (Memᴰ x (later_back T s t) ↔ Memᴰ x (backward_arcs T s t))
  unfolding first_back later_back edge_back source_back step_back backward_arcs
  members s t x =
      rw (edges_back-collected T.edge s t T.counts.edges, steps_back-collected T.version T.counts.versions)
      (arcs_of down down_iff x (λ k. is_followed s t (T.edge k)) (has_previous T.version) (λ k. arc (T.edge k).to.0 (T.edge k).from.0) (λ v. arc v (T.version v).previous.0) T.counts.edges T.counts.versions (λ k. (T.edge k).to.0) (λ k l. (f.edge k l).to_in))

  pub work_back : (v t : ℕ) → v < T.counts.entities → marked_back T (start_of T v t) t ≡ backward_work T v t
  unfolding marked_back backward_work
  work_back v t h =
      let s = start_of T v t in
      closed_same T.counts.versions (backward_arcs T s t) (s ∷ []) (backward_arcs_ends T s t f) (λ b m. rw (Memᴰ.eq_of_singleton m) (start_in T f v t h)) _ _
      (λ x. (members s t x).0)
      (λ x. (members s t x).1)
