-- The versions that a forward trace marks (document 01, "Traces"), where the rows are as in sound tables.
use Prim.Native.Nat.{ℕ, ◌<◌}
use mathlib.Core.Path.{◌≡◌, refl, sym, ◌∙◌, ap, subst}
use mathlib.Core.Logic.Iff
use mathlib.Core.Logic.{◌⊎◌, inl, inr, ◌↔◌}
use mathlib.Core.List.Memᴰ
use mathlib.Core.List.{List, Memᴰ}
use lib.ListN.{length, get_or}
use Rattle.rules.specs.Trail.{Trail, none}
use Rattle.rules.specs.Start.{start_of}
use Rattle.rules.specs.Marks.{Arc, arc, closed}
use Rattle.rules.specs.Members.{OfAny}
use Rattle.rules.specs.Forward.{ForwardMarks, edges_on, steps_on, forward_arcs, starts_of, forward_work}
use Rattle.rules.proofs.Members.{mem_map, of_any_map}
use Rattle.soundness.specs.Facts.{RowFacts}
use Rattle.closure.specs.Arcs.{ReachedBy, Marked, EndBelow, AllBelow}
use Rattle.closure.proofs.Closed.{length-closed, closed_iff}
use Rattle.closure.proofs.Start.{start_in}
use Rattle.closure.proofs.TraceArcs.{edges_on_iff, steps_on_iff}

module _ (T : Trail) where
  -- an arc of the trace goes along an edge or from a previous version to the one that has it
  abbrev EdgeArc : Arc → Type 0
  EdgeArc x = (k : ℕ) × (k < T.counts.edges) × (x ≡ arc (T.edge k).from.0 (T.edge k).to.0)

  abbrev StepArc : Arc → Type 0
  StepArc x = (k : ℕ) × (k < T.counts.versions) × ((T.version k).previous.0 ≡ none → ⊥) × (x ≡ arc (T.version k).previous.0 k)

  forward_arcs_iff : (x : Arc) → Memᴰ x (forward_arcs T) ↔ (EdgeArc x ⊎ StepArc x)
  unfolding forward_arcs
  forward_arcs_iff x = (λ m. to (Memᴰ.append_cases (edges_on T.edge T.counts.edges) m), from)
    where
      e : Memᴰ x (edges_on T.edge T.counts.edges) ↔ EdgeArc x
      e = edges_on_iff T.edge T.counts.edges x

      p : Memᴰ x (steps_on T.version T.counts.versions) ↔ StepArc x
      p = steps_on_iff T.version T.counts.versions x

      to : Memᴰ x (edges_on T.edge T.counts.edges) ⊎ Memᴰ x (steps_on T.version T.counts.versions) → EdgeArc x ⊎ StepArc x
      to (inl m) = inl (e.0 m)
      to (inr m) = inr (p.0 m)

      from : EdgeArc x ⊎ StepArc x → Memᴰ x (forward_arcs T)
      from (inl z) = Memᴰ.append_left (steps_on T.version T.counts.versions) (e.1 z)
      from (inr z) = Memᴰ.append_right (edges_on T.edge T.counts.edges) (p.1 z)

  -- every arc ends at a version that exists
  pub forward_arcs_ends : RowFacts T → EndBelow T.counts.versions (forward_arcs T)
  forward_arcs_ends f x m = go ((forward_arcs_iff x).0 m)
    where
      go : EdgeArc x ⊎ StepArc x → x.to < T.counts.versions
      go (inl (k, l, e)) = rw e (f.edge k l).to_in
      go (inr (k, l, c, e)) = rw e l

  -- from several versions is reached what one of them marks alone
  module _ (ss : List ℕ) where
    reached_marks : {b : ℕ} → ReachedBy (forward_arcs T) ss b → OfAny ss (ForwardMarks T) b
    reached_marks (ReachedBy.seed {b = b} k) = (b, k, ForwardMarks.start refl)
    reached_marks (ReachedBy.along {a = a} {b = b} x r m q z) = let o = reached_marks r in (o.0, o.1, go o.0 o.2 ((forward_arcs_iff x).0 m))
      where
        go : (s : ℕ) → ForwardMarks T s a → EdgeArc x ⊎ StepArc x → ForwardMarks T s b
        go s d (inl (k, l, e)) = ForwardMarks.leaving k l (subst (ForwardMarks T s) (sym q ∙ ap (λ (y : Arc). y.from) e) d) (sym z ∙ ap (λ (y : Arc). y.to) e)
        go s d (inr (k, l, c, e)) =
            let i : k ≡ b = sym (ap (λ (y : Arc). y.to) e) ∙ z in
            subst (ForwardMarks T s) i (ForwardMarks.next d l c (sym q ∙ ap (λ (y : Arc). y.from) e))

    marks_reached : (s : ℕ) → Memᴰ s ss → {b : ℕ} → ForwardMarks T s b → ReachedBy (forward_arcs T) ss b
    marks_reached s i (ForwardMarks.start q) = ReachedBy.seed (subst (λ (y : ℕ). Memᴰ y ss) (sym q) i)
    marks_reached s i (ForwardMarks.leaving k l d q) =
        ReachedBy.along (arc (T.edge k).from.0 (T.edge k).to.0) (marks_reached s i d) ((forward_arcs_iff _).1 (inl (k, l, refl))) refl (sym q)
    marks_reached s i (ForwardMarks.next {b = b} d l c q) =
        ReachedBy.along (arc (T.version b).previous.0 b) (marks_reached s i d) ((forward_arcs_iff _).1 (inr (b, l, c, refl))) (sym q) refl

    marks_iff : RowFacts T → AllBelow T.counts.versions ss → (w : ℕ) → Marked (closed T.counts.versions (forward_arcs T) ss) w ↔ OfAny ss (ForwardMarks T) w
    marks_iff f h w =
        let o = closed_iff T.counts.versions (forward_arcs T) ss (forward_arcs_ends f) h w in
        (λ q. reached_marks (o.0 q), λ z. o.1 (marks_reached z.0 z.1 z.2))

  pub forward_marks_in : (s : ℕ) → RowFacts T → s < T.counts.versions → {b : ℕ} → ForwardMarks T s b → b < T.counts.versions
  forward_marks_in s f h (ForwardMarks.start q) = rw q h
  forward_marks_in s f h (ForwardMarks.leaving k l d q) = rw q (f.edge k l).to_in
  forward_marks_in s f h (ForwardMarks.next d l c q) = l

pub length-forward_work : (T : Trail) (us : List ℕ) (t : ℕ) → length (forward_work T us t) ≡ T.counts.versions
unfolding forward_work
length-forward_work T us t = length-closed T.counts.versions (forward_arcs T) (starts_of T us t)

module _ (T : Trail) (f : RowFacts T) (us : List ℕ) (t : ℕ) (h : AllBelow T.counts.entities us) where
  pub starts_below : AllBelow T.counts.versions (starts_of T us t)
  starts_below s m = let z = (mem_map (λ u. start_of T u t) us s).0 m in rw z.2 (start_in T f z.0 t (h z.0 z.1))

  -- marked are the versions that the documents say
  pub forward_work_iff : (w : ℕ) → get_or (forward_work T us t) w 0 ≡ 1 ↔ OfAny us (λ u. ForwardMarks T (start_of T u t)) w
  unfolding forward_work
  forward_work_iff w = Iff.trans (marks_iff T (starts_of T us t) f starts_below w) (of_any_map (ForwardMarks T) (λ u. start_of T u t) us w)
