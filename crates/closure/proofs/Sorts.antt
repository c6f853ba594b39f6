-- Two sound trails that differ in sorts alone: start versions, marks and intakes are the same, and so are the calls.
use Rattle.std.specs.Prelude.{Ok, Err}
use Prim.Native.Nat.{ℕ, zero, suc, ◌<◌}
use native.Mathlib.Omega.{arith}
use mathlib.Core.Path.{◌≡◌, refl, sym, ◌∙◌, ap}
use mathlib.Core.Bool.{Bool, true, false, cond}
use mathlib.Core.List.Memᴰ
use mathlib.Core.List.{List, [], ◌∷◌, ◌++◌, map}
use lib.Dec.{leb}
use borrow.Author.Tests.{leb-false}
use Rattle.refusals.specs.Refusals.{Checked}
use Rattle.refusals.specs.Refusals.{first_of}
use Rattle.rows.specs.declared.Counts.{Counts}
use Rattle.rules.specs.Trail.{Tables, capacity_of, Trail, trail_of, latest_of}
use Rattle.rules.specs.Sound.{is_sound}
use Rattle.rules.specs.Start.{start_from, start_of, times_into, greatest_or, intake_of}
use Rattle.rules.specs.Marks.{closed, marks_below, ones, overlaid}
use Rattle.rules.specs.Backward.{edges_back, steps_back, backward_arcs, backward_work, backward_entities, trace_refusals, trace_checks, backward_trace, backward_of}
use Rattle.rules.specs.Members.{earliest}
use Rattle.rules.specs.Forward.{edges_on, steps_on, forward_arcs, starts_of, forward_work, forward_entities, forward_intake, forward_trace, forward_of}
use Rattle.soundness.specs.Facts.{RowFacts}
use Rattle.soundness.proofs.Facts.{sound_rows}
use Rattle.closure.specs.Arcs.{AllBelow}
use Rattle.closure.specs.Same.{SameButSorts}
use Rattle.closure.specs.Sorts.{NoSortRead}
use Rattle.closure.proofs.Below.{edges_back-same, edges_on-same, times_into-same, steps_back-same, steps_on-same, marks_below-same}
use Rattle.closure.proofs.Start.{previous_lower, start_in}
use Rattle.closure.proofs.Checked.{passed_entity, passed_entities}
use Rattle.closure.proofs.TraceCalls.{trace_checked, backward_of_passed, forward_of_passed, backward_of_refused, forward_of_refused}

-- two trails, the first of which has the facts of sound rows
module _ {T T' : Trail} (f : RowFacts T) (s : SameButSorts T T') where
  -- the search for a start version stays among versions in use
  start_from-same : (t n w : ℕ) → w < T.counts.versions → start_from T.version t n w ≡ start_from T'.version t n w
  unfolding start_from
  start_from-same t zero w l = refl
  start_from-same t (suc n) w l = rw (← s.version_rows w l) (go (leb (T.version w).start t) refl (λ p i. start_from-same t n p i))
    where
      go : (b : Bool) → leb (T.version w).start t ≡ b → ((p : ℕ) → p < T.counts.versions → start_from T.version t n p ≡ start_from T'.version t n p)
          → cond b w (start_from T.version t n (T.version w).previous.0) ≡ cond b w (start_from T'.version t n (T.version w).previous.0)
      go true q ih = refl
      go false q ih = ih _ (omega (arith, previous_lower T f t w l (leb-false _ _ q)))

  start_of-same : (x t : ℕ) → x < T.counts.entities → start_of T x t ≡ start_of T' x t
  unfolding start_of
  start_of-same x t h =
      start_from-same t T.counts.versions (latest_of T x) (f.entity x h).latest_in
      ∙ (λ j. start_from T'.version t (s.counts j).versions (s.latest x h j))

  intake_of-same : (v t : ℕ) → v < T.counts.versions → intake_of T v t ≡ intake_of T' v t
  unfolding intake_of
  intake_of-same v t l =
      (λ j. greatest_or (s.version_rows v l j).start (times_into-same v t T.counts.edges s.edge_rows j))
      ∙ (λ j. greatest_or (T'.version v).start (times_into T'.edge v t (s.counts j).edges))

  entities_same : (work work' : List ℕ) → work ≡ work'
      → marks_below T.version work T.counts.versions T.counts.entities ≡ marks_below T'.version work' T'.counts.versions T'.counts.entities
  entities_same work work' q =
      marks_below-same work T.counts.versions T.counts.entities s.version_rows
      ∙ (λ j. marks_below T'.version (q j) (s.counts j).versions (s.counts j).entities)

  -- Backward
  module _ (x t : ℕ) (h : x < T.counts.entities) where
    backward_arcs-same : (v : ℕ) → backward_arcs T v t ≡ backward_arcs T' v t
    unfolding backward_arcs
    backward_arcs-same v =
        (λ j. edges_back-same v t T.counts.edges s.edge_rows j ++ steps_back-same T.counts.versions s.version_rows j)
        ∙ (λ j. edges_back T'.edge v t (s.counts j).edges ++ steps_back T'.version (s.counts j).versions)

    backward_work-same : backward_work T x t ≡ backward_work T' x t
    unfolding backward_work
    backward_work-same =
        (λ j. closed (s.counts j).versions (backward_arcs-same (start_of T x t) j) (start_of T x t ∷ []))
        ∙ (λ j. closed T'.counts.versions (backward_arcs T' (start_of-same x t h j) t) (start_of-same x t h j ∷ []))

    backward_entities-same : backward_entities T x t ≡ backward_entities T' x t
    unfolding backward_entities
    backward_entities-same = entities_same _ _ backward_work-same

  -- Forward
  forward_arcs-same : forward_arcs T ≡ forward_arcs T'
  unfolding forward_arcs
  forward_arcs-same =
      (λ j. edges_on-same T.counts.edges s.edge_rows j ++ steps_on-same T.counts.versions s.version_rows j)
      ∙ (λ j. edges_on T'.edge (s.counts j).edges ++ steps_on T'.version (s.counts j).versions)

  starts_same : (us : List ℕ) (t : ℕ) → AllBelow T.counts.entities us → starts_of T us t ≡ starts_of T' us t
  starts_same [] t h = refl
  starts_same (u ∷ us) t h = λ j. start_of-same u t (h u (Memᴰ.head refl)) j ∷ starts_same us t (λ x m. h x (Memᴰ.tail m)) j

  intakes_same : (us : List ℕ) (t : ℕ) → AllBelow T.counts.entities us
      → map (λ u. intake_of T (start_of T u t) t) us ≡ map (λ u. intake_of T' (start_of T' u t) t) us
  intakes_same [] t h = refl
  intakes_same (u ∷ us) t h =
      let l = h u (Memᴰ.head refl) in
      let q = intake_of-same (start_of T u t) t (start_in T f u t l) ∙ ap (λ (v : ℕ). intake_of T' v t) (start_of-same u t l) in
      λ j. q j ∷ intakes_same us t (λ x m. h x (Memᴰ.tail m)) j

  module _ (us : List ℕ) (t : ℕ) (h : AllBelow T.counts.entities us) where
    forward_work-same : forward_work T us t ≡ forward_work T' us t
    unfolding forward_work
    forward_work-same = λ j. closed (s.counts j).versions (forward_arcs-same j) (starts_same us t h j)

    forward_entities-same : forward_entities T us t ≡ forward_entities T' us t
    unfolding forward_entities
    forward_entities-same = entities_same _ _ forward_work-same

    forward_intake-same : forward_intake T us t ≡ forward_intake T' us t
    unfolding forward_intake
    forward_intake-same = ap earliest (intakes_same us t h)

-- The calls
module _ (c c' : Counts) (t t' : Tables) (p : is_sound (capacity_of t) (trail_of c t) ≡ true) (p' : is_sound (capacity_of t') (trail_of c' t') ≡ true) (s : SameButSorts (trail_of c t) (trail_of c' t')) where
  checked-same : (xs work marks : List ℕ) → trace_checked c t xs work marks ≡ trace_checked c' t' xs work marks
  unfolding trace_checks first_of
  checked-same xs work marks = rw (p, p') (ap (λ (k : Counts). first_of (trace_refusals k xs work marks)) s.counts)

  f : RowFacts (trail_of c t)
  f = sound_rows (capacity_of t) (trail_of c t) p

  backward-same : (x time : ℕ) (work marks : List ℕ) → backward_of c t x time work marks ≡ backward_of c' t' x time work marks
  backward-same x time work marks = go (trace_checked c t (x ∷ []) work marks) refl
    where
      go : (k : Checked) → trace_checked c t (x ∷ []) work marks ≡ k → backward_of c t x time work marks ≡ backward_of c' t' x time work marks
      go (Ok tt) q =
          let h = passed_entity c t x work marks q in
          backward_of_passed c t x time work marks q
          ∙ (λ j. backward_trace (record { refusal = 0; count = ones (backward_entities-same f s x time h j) })
          (overlaid (backward_work-same f s x time h j) work) (overlaid (backward_entities-same f s x time h j) marks))
          ∙ sym (backward_of_passed c' t' x time work marks (sym (checked-same (x ∷ []) work marks) ∙ q))
      go (Err r) q =
          backward_of_refused c t x time work marks r q
          ∙ sym (backward_of_refused c' t' x time work marks r (sym (checked-same (x ∷ []) work marks) ∙ q))

  forward-same : (us : List ℕ) (time : ℕ) (work marks : List ℕ) → forward_of c t us time work marks ≡ forward_of c' t' us time work marks
  forward-same us time work marks = go (trace_checked c t us work marks) refl
    where
      go : (k : Checked) → trace_checked c t us work marks ≡ k → forward_of c t us time work marks ≡ forward_of c' t' us time work marks
      go (Ok tt) q =
          let h = passed_entities c t us work marks q in
          forward_of_passed c t us time work marks q
          ∙ (λ j. forward_trace (record { refusal = 0; count = ones (forward_entities-same f s us time h j); intake = forward_intake-same f s us time h j })
          (overlaid (forward_work-same f s us time h j) work) (overlaid (forward_entities-same f s us time h j) marks))
          ∙ sym (forward_of_passed c' t' us time work marks (sym (checked-same us work marks) ∙ q))
      go (Err r) q =
          forward_of_refused c t us time work marks r q ∙ sym (forward_of_refused c' t' us time work marks r (sym (checked-same us work marks) ∙ q))

pub no_sort_read : NoSortRead
no_sort_read c c' t t' p p' s = record { backward = backward-same c c' t t' p p' s; forward = forward-same c c' t t' p p' s }
