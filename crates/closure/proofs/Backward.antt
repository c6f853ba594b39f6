-- The versions that a backward trace marks (document 01, "Traces"), where the rows are as in sound tables.
use Prim.Native.Nat.{ℕ, ◌≤◌, ◌<◌}
use native.Mathlib.Omega.{arith}
use native.Mathlib.Decide.{ℕ_discrete}
use mathlib.Core.Path.{◌≡◌, refl, sym, ◌∙◌, ap, subst}
use mathlib.Core.Logic.{◌⊎◌, inl, inr, ◌↔◌}
use mathlib.Core.List.Memᴰ
use mathlib.Core.List.{[], ◌∷◌, Memᴰ}
use lib.ListN.{length, get_or}
use Rattle.rules.specs.Trail.{Trail, none}
use Rattle.rules.specs.Start.{start_of}
use Rattle.rules.specs.Marks.{Arc, arc, closed}
use Rattle.rules.specs.Backward.{BackwardMarks, edges_back, steps_back, backward_arcs, backward_work}
use Rattle.soundness.specs.Facts.{RowFacts}
use Rattle.closure.specs.Arcs.{ReachedBy, Marked, EndBelow, AllBelow}
use Rattle.closure.proofs.Closed.{length-closed, closed_iff}
use Rattle.closure.proofs.Start.{previous_before, start_in}
use Rattle.closure.proofs.TraceArcs.{edges_back_iff, steps_back_iff}

module _ (T : Trail) (s t : ℕ) where
  -- an arc of the trace goes against an edge or to a previous version
  abbrev EdgeArc : Arc → Type 0
  EdgeArc x = (k : ℕ) × (k < T.counts.edges) × ((T.edge k).to.0 ≡ s → (T.edge k).time ≤ t) × (x ≡ arc (T.edge k).to.0 (T.edge k).from.0)

  abbrev StepArc : Arc → Type 0
  StepArc x = (k : ℕ) × (k < T.counts.versions) × ((T.version k).previous.0 ≡ none → ⊥) × (x ≡ arc k (T.version k).previous.0)

  backward_arcs_iff : (x : Arc) → Memᴰ x (backward_arcs T s t) ↔ (EdgeArc x ⊎ StepArc x)
  unfolding backward_arcs
  backward_arcs_iff x = (λ m. to (Memᴰ.append_cases (edges_back T.edge s t T.counts.edges) m), from)
    where
      e : Memᴰ x (edges_back T.edge s t T.counts.edges) ↔ EdgeArc x
      e = edges_back_iff T.edge s t T.counts.edges x

      p : Memᴰ x (steps_back T.version T.counts.versions) ↔ StepArc x
      p = steps_back_iff T.version T.counts.versions x

      to : Memᴰ x (edges_back T.edge s t T.counts.edges) ⊎ Memᴰ x (steps_back T.version T.counts.versions) → EdgeArc x ⊎ StepArc x
      to (inl m) = inl (e.0 m)
      to (inr m) = inr (p.0 m)

      from : EdgeArc x ⊎ StepArc x → Memᴰ x (backward_arcs T s t)
      from (inl z) = Memᴰ.append_left (steps_back T.version T.counts.versions) (e.1 z)
      from (inr z) = Memᴰ.append_right (edges_back T.edge s t T.counts.edges) (p.1 z)

  -- every arc ends at a version that exists
  pub backward_arcs_ends : RowFacts T → EndBelow T.counts.versions (backward_arcs T s t)
  backward_arcs_ends f x m = go ((backward_arcs_iff x).0 m)
    where
      go : EdgeArc x ⊎ StepArc x → x.to < T.counts.versions
      go (inl (k, l, c, e)) = rw e (f.edge k l).from_in
      go (inr (k, l, c, e)) = rw e (omega (arith, previous_before T f k l c))

  reached_marks : {a : ℕ} → ReachedBy (backward_arcs T s t) (s ∷ []) a → BackwardMarks T s t a
  reached_marks (ReachedBy.seed k) = BackwardMarks.start (Memᴰ.eq_of_singleton k)
  reached_marks (ReachedBy.along {a = b} {b = a} x r m q z) = go (reached_marks r) ((backward_arcs_iff x).0 m)
    where
      edge : BackwardMarks T s t b → (k : ℕ) → k < T.counts.edges → ((T.edge k).to.0 ≡ s → (T.edge k).time ≤ t) → (T.edge k).to.0 ≡ b → a ≡ (T.edge k).from.0 → Dec (b ≡ s) → BackwardMarks T s t a
      edge d k l c i o (yes e) = BackwardMarks.into_start k l (i ∙ e) (c (i ∙ e)) o
      edge d k l c i o (no e) = BackwardMarks.into_other k d e l i o

      go : BackwardMarks T s t b → EdgeArc x ⊎ StepArc x → BackwardMarks T s t a
      go d (inl (k, l, c, e)) = edge d k l c (sym (ap (λ (y : Arc). y.from) e) ∙ q) (sym z ∙ ap (λ (y : Arc). y.to) e) (ℕ_discrete b s)
      go d (inr (k, l, c, e)) =
          let i : b ≡ k = sym q ∙ ap (λ (y : Arc). y.from) e in
          BackwardMarks.previous (subst (BackwardMarks T s t) i d) c (sym z ∙ ap (λ (y : Arc). y.to) e)

  module _ (f : RowFacts T) (h : s < T.counts.versions) where
    pub backward_marks_in : {a : ℕ} → BackwardMarks T s t a → a < T.counts.versions
    backward_marks_in (BackwardMarks.start q) = rw q h
    backward_marks_in (BackwardMarks.into_start k l i c q) = rw q (f.edge k l).from_in
    backward_marks_in (BackwardMarks.into_other k d n l i q) = rw q (f.edge k l).from_in
    backward_marks_in (BackwardMarks.previous {b = b} d n q) = let l = backward_marks_in d in omega (arith, previous_before T f b l n)

    marks_reached : {a : ℕ} → BackwardMarks T s t a → ReachedBy (backward_arcs T s t) (s ∷ []) a
    marks_reached (BackwardMarks.start q) = ReachedBy.seed (Memᴰ.head q)
    marks_reached (BackwardMarks.into_start k l i c q) =
        ReachedBy.along (arc (T.edge k).to.0 (T.edge k).from.0) (ReachedBy.seed (Memᴰ.head i)) ((backward_arcs_iff _).1 (inl (k, l, λ _. c, refl))) refl (sym q)
    marks_reached (BackwardMarks.into_other k d n l i q) =
        ReachedBy.along (arc (T.edge k).to.0 (T.edge k).from.0) (marks_reached d) ((backward_arcs_iff _).1 (inl (k, l, λ e. absurd (n (sym i ∙ e)), refl))) i (sym q)
    marks_reached (BackwardMarks.previous {b = b} d n q) =
        ReachedBy.along (arc b (T.version b).previous.0) (marks_reached d) ((backward_arcs_iff _).1 (inr (b, backward_marks_in d, n, refl))) refl (sym q)

    seeds : AllBelow T.counts.versions (s ∷ [])
    seeds b m = rw (Memᴰ.eq_of_singleton m) h

    marks_iff : (w : ℕ) → Marked (closed T.counts.versions (backward_arcs T s t) (s ∷ [])) w ↔ BackwardMarks T s t w
    marks_iff w = let o = closed_iff T.counts.versions (backward_arcs T s t) (s ∷ []) (backward_arcs_ends f) seeds w in (λ q. reached_marks (o.0 q), λ d. o.1 (marks_reached d))

pub length-backward_work : (T : Trail) (x t : ℕ) → length (backward_work T x t) ≡ T.counts.versions
unfolding backward_work
length-backward_work T x t = length-closed T.counts.versions (backward_arcs T (start_of T x t) t) (start_of T x t ∷ [])

module _ (T : Trail) (f : RowFacts T) (x t : ℕ) (h : x < T.counts.entities) where
  -- marked are the versions that the document says
  pub backward_work_iff : (w : ℕ) → get_or (backward_work T x t) w 0 ≡ 1 ↔ BackwardMarks T (start_of T x t) t w
  unfolding backward_work
  backward_work_iff w = marks_iff T (start_of T x t) t f (start_in T f x t h) w
