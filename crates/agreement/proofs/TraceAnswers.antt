-- A trace over tables that the trace theorem speaks of agrees with the full list: what the theorem says of document 01's relations is said of
-- the buffers, since the calls are those of the relations.
use Prim.Native.Nat.{ℕ, ◌<◌}
use native.Mathlib.Omega.{arith}
use mathlib.Core.Path.{◌≡◌, refl, sym, ◌∙◌}
use mathlib.Core.Logic.Iff
use mathlib.Core.Logic.{◌↔◌}
use mathlib.Core.Bool.{true}
use mathlib.Core.List.{List, [], ◌∷◌, Memᴰ}
use lib.ListN.{get_or}
use Rattle.refusals.specs.Refusals.{first_of, number_of}
use Rattle.rows.specs.declared.Counts.{Counts}
use Rattle.record.specs.declared.Record.{Record}
use Rattle.rules.specs.Trail.{Tables, capacity_of, Trail, trail_of}
use Rattle.rules.specs.Sound.{is_sound}
use Rattle.rules.specs.Paths.{PathBy, PathAfter}
use Rattle.rules.specs.History.{accepted, intake_time, Reached}
use Rattle.rules.specs.PlainList.{worked, items_of}
use Rattle.rules.specs.Backward.{trace_refusals, trace_checks, BackwardTrace}
use Rattle.rules.specs.Start.{StartVersion, start_of}
use Rattle.rules.specs.Members.{OfAny, IsEarliest}
use Rattle.rules.specs.Forward.{ForwardMarks, MarkedFrom, IntakeFrom, ForwardTrace}
use Rattle.rules.proofs.Members.{of_any_iff, earliest-same}
use Rattle.closure.specs.Arcs.{AllBelow}
use Rattle.closure.specs.ByRelations.{HasMarkedVersion, Marking, IsBackwardTrace, IsForwardTrace}
use Rattle.closure.proofs.StartVersion.{start_of_is}
use Rattle.closure.proofs.Checked.{number_passed, passed_entities}
use Rattle.closure.proofs.Marking.{count_of_iff}
use Rattle.closure.proofs.FromStart.{marked_from, intake_from}
use Rattle.closure.proofs.Traced.{BackwardTraced, ForwardTraced}
use Rattle.closure.proofs.Union.{owner_any}
use Rattle.causality.specs.Working.{EntityMarked}
use Rattle.agreement.specs.Demand3.{MarksAre, BackwardAgrees, ForwardAgrees}
use Rattle.agreement.proofs.Held.{marked_some, Known}

module _ (c : Counts) (t : Tables) (rs : List Record) (k : Known (trail_of c t) (worked rs).counts.entities (items_of rs)) where
  abbrev T : Trail
  T = trail_of c t

  module _ {M P : ℕ → Type 0} {work marks work' marks' : List ℕ} {n : ℕ} (g : Marking T M work marks work' marks' n) (h : (x : ℕ) → HasMarkedVersion T M x ↔ P x) where
    in_plain : {x : ℕ} → x < c.entities → x < (worked rs).counts.entities
    in_plain l = omega (arith, k.entities)

    marks_are : MarksAre (worked rs).counts.entities P marks' n
    marks_are = record {
      bits = λ x l. g.entities.bits x (omega (arith, k.entities));
      marked = λ x l. (λ z. (h x).0 ((g.entities.marked x).0 (omega (arith, k.entities), z)), λ z. ((g.entities.marked x).1 ((h x).1 z)).1);
      counted = count_of_iff (λ x. (λ z. (in_plain ((g.entities.marked x).1 z).0, (h x).0 z), λ z. (h x).1 z.1)) g.counted;
    }

  backward_marks : (x time : ℕ) (work marks : List ℕ) → x < c.entities → (b : BackwardTrace) → BackwardTraced T x time work marks b
      → MarksAre (worked rs).counts.entities (λ y. PathBy (accepted (items_of rs)) time y x) b.marks b.answer.count
  backward_marks x time work marks i b z = marks_are z.2 (λ y. Iff.trans marked_some (k.faithful.backward x time z.0 y i z.1))

  module _ (us : List ℕ) (time : ℕ) (work marks : List ℕ) (h : AllBelow c.entities us) where
    -- the start version of a member, and what is marked from it
    start_of_lem : (u : ℕ) → Memᴰ u us → StartVersion T u time (start_of T u time)
    start_of_lem u m = start_of_is T k.rows k.few u time (h u m)

    from_one : (u : ℕ) → Memᴰ u us → (y : ℕ) → HasMarkedVersion T (MarkedFrom T time u) y ↔ EntityMarked T (ForwardMarks T (start_of T u time)) y
    from_one u m y =
        let d = marked_from T k.rows k.few time u (h u m) in
        Iff.trans (λ z. (z.0, (d z.0).0 z.1, z.2), λ z. (z.0, (d z.0).1 z.1, z.2)) marked_some

    reached_from : (u : ℕ) → Memᴰ u us → (y : ℕ) → HasMarkedVersion T (MarkedFrom T time u) y ↔ Reached u time (items_of rs) y
    reached_from u m y = Iff.trans (from_one u m y) (k.faithful.forward u time (start_of T u time) y (h u m) (start_of_lem u m))

    intake_of : (u : ℕ) → Memᴰ u us → (i : ℕ) → IntakeFrom T time u i ↔ (i ≡ intake_time u time (items_of rs))
    intake_of u m i =
        let q = k.faithful.intake u time (start_of T u time) (h u m) (start_of_lem u m) in
        let g = intake_from T k.rows k.few time u (h u m) i in
        (λ d. g.1 d ∙ q, λ e. g.0 (e ∙ sym q))

    module _ (f : ForwardTrace) (z : ForwardTraced T us time work marks f) where
      forward_marks : MarksAre (worked rs).counts.entities (OfAny us (λ u. Reached u time (items_of rs))) f.marks f.answer.count
      forward_marks =
          marks_are z.1
          (λ y. Iff.trans (owner_any T us (MarkedFrom T time) y)
          (of_any_iff us (λ u. HasMarkedVersion T (MarkedFrom T time u)) (λ u. Reached u time (items_of rs)) y (λ u m. reached_from u m y)))

      forward_intake : IsEarliest us (λ u i. i ≡ intake_time u time (items_of rs)) f.answer.intake
      forward_intake = earliest-same (λ i. of_any_iff us (IntakeFrom T time) (λ u j. j ≡ intake_time u time (items_of rs)) i (λ u m. intake_of u m i)) (λ q. q) z.0

      forward_never_less : (y : ℕ) → OfAny us (PathAfter (accepted (items_of rs)) time) y → (y < (worked rs).counts.entities) × (get_or f.marks y 0 ≡ 1)
      forward_never_less y (u, m, p) =
          let d = (from_one u m y).1 (k.faithful.never_less u time (start_of T u time) y (h u m) (start_of_lem u m) p) in
          let e = (z.1.entities.marked y).1 ((owner_any T us (MarkedFrom T time) y).1 (u, m, d)) in
          (omega (arith, k.entities, e.0), e.1)

  -- over sound tables with the counts of the plain list, a trace is refused for what the plain list says
  module _ (s : is_sound (capacity_of t) T ≡ true) (same : c ≡ (worked rs).counts) where
    module _ (xs work marks : List ℕ) {n : ℕ} (p : n ≡ number_of (first_of (trace_checks c t xs work marks))) where
      rightly : n ≡ number_of (first_of (trace_refusals (worked rs).counts xs work marks))
      unfolding trace_checks first_of
      rightly = p ∙ rw s (λ j. number_of (first_of (trace_refusals (same j) xs work marks)))

      passed : n ≡ 0 → AllBelow c.entities xs
      passed q = passed_entities c t xs work marks (number_passed c t xs work marks (sym p ∙ q))

    pub backward_answer : (x time : ℕ) (work marks : List ℕ) (b : BackwardTrace) → IsBackwardTrace c t x time work marks b → BackwardAgrees rs x time work marks b
    backward_answer x time work marks b r = record {
      refusal = rightly (x ∷ []) work marks r.refusal;
      marks_are = λ q. backward_marks x time work marks (passed (x ∷ []) work marks r.refusal q x (Memᴰ.head refl)) b (r.traced q);
    }

    pub forward_answer : (us : List ℕ) (time : ℕ) (work marks : List ℕ) (f : ForwardTrace) → IsForwardTrace c t us time work marks f → ForwardAgrees rs us time work marks f
    forward_answer us time work marks f r = record {
      refusal = rightly us work marks r.refusal;
      marks_are = λ q. forward_marks us time work marks (passed us work marks r.refusal q) f (r.traced q);
      intake_is = λ q. forward_intake us time work marks (passed us work marks r.refusal q) f (r.traced q);
      never_less = λ q. forward_never_less us time work marks (passed us work marks r.refusal q) f (r.traced q);
    }
