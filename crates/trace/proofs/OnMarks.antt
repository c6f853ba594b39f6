-- The work buffer of a forward trace is the one of document 01.
use Prim.Native.Nat.{ℕ}
use mathlib.Core.Path.{◌≡◌}
use mathlib.Core.Logic.{◌↔◌}
use mathlib.Core.Bool.{true}
use mathlib.Core.List.{List, Memᴰ}
use Rattle.rules.specs.Trail.{Trail}
use Rattle.rules.specs.Marks.{Arc, arc, seeded}
use Rattle.rules.specs.Forward.{forward_arcs, starts_of, forward_work}
use Rattle.soundness.specs.Facts.{RowFacts}
use Rattle.closure.specs.Arcs.{AllBelow}
use Rattle.closure.proofs.Closed.{closed_same}
use Rattle.closure.proofs.TraceArcs.{has_previous, edges_on-collected, steps_on-collected}
use Rattle.closure.proofs.Forward.{forward_arcs_ends, starts_below}
use Rattle.passes.specs.Followed.{up}
use Rattle.passes.specs.TraceArcs.{step_on, target_on, edge_on, first_on, later_on, marked_on}
use Rattle.passes.proofs.Members.{up_iff, arcs_of}

module _ (T : Trail) (f : RowFacts T) where
  members : (x : Arc) → (Memᴰ x (first_on T) → Memᴰ x (forward_arcs T)) × (Memᴰ x (later_on T) ↔ Memᴰ x (forward_arcs T))
  unfolding first_on later_on edge_on target_on step_on forward_arcs
  members x =
      rw (edges_on-collected T.edge T.counts.edges, steps_on-collected T.version T.counts.versions)
      (arcs_of up up_iff x (λ k. true) (has_previous T.version) (λ k. arc (T.edge k).from.0 (T.edge k).to.0) (λ v. arc (T.version v).previous.0 v) T.counts.edges T.counts.versions (λ k. (T.edge k).to.0) (λ k l. (f.edge k l).to_in))

  pub work_on : (us : List ℕ) (t : ℕ) → AllBelow T.counts.entities us → marked_on T (seeded T.counts.versions (starts_of T us t)) ≡ forward_work T us t
  unfolding marked_on forward_work
  work_on us t h =
      closed_same T.counts.versions (forward_arcs T) (starts_of T us t) (forward_arcs_ends T f) (starts_below T f us t h) _ _
      (λ x. (members x).0)
      (λ x. (members x).1)
