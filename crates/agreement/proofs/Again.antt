-- The kept log as a plain list is taken in again whole: none of its events is a repeat, and as many versions are made.
use Rattle.std.specs.Prelude.{Ok}
use Prim.Native.Nat.{ℕ, ◌+◌, ◌≤◌, ◌<◌}
use native.Mathlib.Omega.{arith}
use mathlib.Core.Path.{◌≡◌, refl, sym, ◌∙◌, ap, subst}
use mathlib.Core.List.{List, [], ◌∷◌}
use Rattle.record.specs.declared.Event.{Event}
use Rattle.record.specs.declared.Record.{Record}
use Rattle.record.specs.declared.Record.TheVariants as records
use Rattle.record.specs.Layout.{kind_no}
use Rattle.rules.specs.declared.Decision.{Decision}
use Rattle.rules.specs.declared.Decision.TheVariants.{Repeat, Widen, Renew}
use Rattle.rules.specs.Trail.{Capacity, Trail, fresh}
use Rattle.rules.specs.Sound.{is_subject, is_signed}
use Rattle.rules.specs.Decide.{decision_of}
use Rattle.rules.specs.Record.{happened, refusal_of, change_of}
use Rattle.rules.specs.PlainList.{changed, worked, items_of}
use Rattle.rules.specs.History.{Item, kept, item_of, kept_events}
use Rattle.rules.specs.Calls.{EnoughRows}
use Rattle.rules.specs.KeptLog.{declared_sort}
use Rattle.soundness.specs.Taken.{RoomLeft, EventTaken}
use Rattle.soundness.proofs.Hit.{decision_found}
use Rattle.soundness.proofs.Taken.{event-taken, signature_taken}
use Rattle.causality.specs.Working.{Grown}
use Rattle.agreement.specs.Taken.{Within, Taken, begun, next}
use Rattle.agreement.proofs.Plain.{taken_fine}
use Rattle.agreement.proofs.KeptOnly.{all_kept, kept_events-all_kept}
use Rattle.agreement.proofs.Decided.{decision_again}
use Rattle.agreement.proofs.Passing.{event-passes, KeptStep, made, happened-step}
use Rattle.agreement.proofs.Relogged.{relogged, TakenBy, taken_by_taken, declares}
use Rattle.soundness.proofs.Sorts.{source_same, target_same, declared_subject, declared-unsigned}
use Rattle.agreement.proofs.Before.{Before, before_declared, before_kept, before_event, before_signed}

-- the kept events of a trail T that goes on to F, worked again after all declarations of F
pub record Regrown (cap : Capacity) (F T : Trail) (ks : List Event) : Type 0 where
  pub by : TakenBy cap (relogged F ks)
  pub items : items_of (relogged F ks) ≡ all_kept ks
  pub entities : (worked (relogged F ks)).counts.entities ≡ F.counts.entities
  pub sorts : (x : ℕ) → x < F.counts.entities → ((worked (relogged F ks)).entity x).sort ≡ declared_sort (F.entity x).sort
  pub versions : (worked (relogged F ks)).counts.versions + T.counts.entities ≡ T.counts.versions + F.counts.entities
  pub edges : (worked (relogged F ks)).counts.edges ≡ T.counts.edges
  pub accepted : (worked (relogged F ks)).counts.accepted ≤ T.counts.accepted
  pub last : (worked (relogged F ks)).counts.last ≤ T.counts.last

module _ (F : Trail) (cap : Capacity) (w : Within cap) (room : EnoughRows cap F.counts) where
  -- The events
  module _ {hs : List Item} (T : Trail) (e : Event) (d : Decision) (cap₀ : Capacity) (g : Grown T hs) (q : decision_of T e ≡ d) (k : item_of d e ≡ kept e)
      (p : EventTaken cap₀ T e d) (b : Before (changed T (happened T e d)) F) (r : Regrown cap F T (kept_events hs)) where
    abbrev R : List Record
    R = relogged F (kept_events hs)

    step : KeptStep T (changed T (happened T e d)) e (made d)
    step = happened-step T e d k

    before : Before T F
    before = before_kept T _ F e _ step b

    again : Grown (worked R) (items_of R)
    again = (taken_fine (taken_by_taken cap w R r.by)).grown

    source_in : e.source.0 < (worked R).counts.entities
    source_in = omega (arith, p.source_in, before.entities, r.entities)

    target_in : e.target.0 < (worked R).counts.entities
    target_in = omega (arith, p.target_in, before.entities, r.entities)

    decided : decision_of (worked R) e ≡ d
    decided =
        decision_again g again (sym (kept_events-all_kept (kept_events hs)) ∙ ap kept_events (sym r.items)) e p.source_in p.target_in source_in target_in (rw q k) ∙ q

    sort_again : (x : ℕ) → x < T.counts.entities → ((worked R).entity x).sort ≡ declared_sort (F.entity x).sort
    sort_again x l = r.sorts x (omega (arith, before.entities))

    subject_again : (x : ℕ) → x < T.counts.entities → is_subject ((worked R).entity x).sort ≡ is_subject (T.entity x).sort
    subject_again x l = ap is_subject (sort_again x l) ∙ declared_subject (F.entity x).sort ∙ sym (before.subjects x l)

    edge_again : (worked R).counts.edges < cap.edges
    edge_again = omega (arith, r.edges, step.edges, b.edges, room.edges)

    room_again : (x : Decision) → d ≡ x → RoomLeft cap (worked R).counts x
    room_again (Repeat j) h = (decision_found (worked R) e j (decided ∙ h)).0
    room_again Widen h = edge_again
    room_again Renew h = (edge_again, omega (arith, ap made h, r.versions, b.versions, step.versions, step.entities, room.versions))

    taken_again : EventTaken cap (worked R) e d
    taken_again = record {
      source_in = source_in;
      target_in = target_in;
      apart = p.apart;
      source_fits_lem = source_same (kind_no e.kind) _ _ (subject_again _ p.source_in) ∙ p.source_fits_lem;
      target_fits_lem = target_same (kind_no e.kind) _ _ (subject_again _ p.target_in) ∙ p.target_fits_lem;
      unsigned = ap is_signed (sort_again _ p.target_in) ∙ declared-unsigned (F.entity e.target.0).sort;
      positive = p.positive;
      not_earlier = omega (arith, p.not_earlier, r.last);
      accepted_left = omega (arith, p.accepted_left, r.accepted);
      room_left = room_again d refl;
    }

    step_again : KeptStep (worked R) (worked (records.Event e ∷ R)) e (made d)
    unfolding change_of
    step_again =
        subst (λ (x : Decision). KeptStep (worked R) (changed (worked R) (happened (worked R) e x)) e (made d)) (sym decided) (happened-step (worked R) e d k)

    passes_again : refusal_of cap (worked R) (records.Event e) ≡ Ok tt
    unfolding refusal_of
    passes_again = event-passes cap (worked R) e _ (subst (EventTaken cap (worked R) e) (sym decided) taken_again)

    regrown_kept : Regrown cap F (changed T (happened T e d)) (e ∷ kept_events hs)
    regrown_kept = record {
      by = ((tt, passes_again), r.by);
      items = λ j. (ap (λ (x : Decision). item_of x e) decided ∙ k) j ∷ r.items j;
      entities = step_again.entities ∙ r.entities;
      sorts = λ x l. step_again.sorts x ∙ r.sorts x l;
      versions = omega (arith, step_again.versions, step.versions, step.entities, r.versions);
      edges = omega (arith, step_again.edges, step.edges, r.edges);
      accepted = omega (arith, step_again.accepted, step.accepted, r.accepted);
      last = omega (arith, step_again.last, step.last);
    }

  regrown-event : {hs : List Item} (T : Trail) (e : Event) (d : Decision) (cap₀ : Capacity) → Grown T hs → decision_of T e ≡ d → EventTaken cap₀ T e d
      → Before (changed T (happened T e d)) F → Regrown cap F T (kept_events hs) → Regrown cap F (changed T (happened T e d)) (kept_events (item_of d e ∷ hs))
  regrown-event T e (Repeat k) cap₀ g q p b r = record {
    by = r.by;
    items = r.items;
    entities = r.entities;
    sorts = r.sorts;
    versions = r.versions;
    edges = r.edges;
    accepted = omega (arith, r.accepted);
    last = omega (arith, r.last, p.not_earlier);
  }
  regrown-event T e Widen cap₀ g q p b r = regrown_kept T e Widen cap₀ g q refl p b r
  regrown-event T e Renew cap₀ g q p b r = regrown_kept T e Renew cap₀ g q refl p b r

  regrown-begun : Before fresh F → Regrown cap F fresh []
  regrown-begun b =
      let o = declares F cap room (omega (arith, b.versions)) F.counts.entities (omega arith) in
      record {
        by = o.by;
        items = o.items;
        entities = o.entities;
        sorts = o.sorts;
        versions = omega (arith, o.versions);
        edges = o.edges;
        accepted = omega (arith, o.accepted);
        last = omega (arith, o.last);
      }

  pub regrown : {rs : List Record} → Taken rs → Before (worked rs) F → Regrown cap F (worked rs) (kept_events (items_of rs))
  unfolding refusal_of change_of
  regrown begun b = regrown-begun b
  regrown (next {rs = rs} t cap₀ u (records.Declaration d) s h) b =
      let r = regrown t (before_declared (worked rs) F d b) in
      record {
        by = r.by;
        items = r.items;
        entities = r.entities;
        sorts = r.sorts;
        versions = omega (arith, r.versions);
        edges = r.edges;
        accepted = r.accepted;
        last = r.last;
      }
  regrown (next {rs = rs} t cap₀ u (records.Event e) s h) b =
      let T = worked rs in
      let d = decision_of T e in
      regrown-event T e d cap₀ (taken_fine t).grown refl (event-taken cap₀ T e h) b (regrown t (before_event T F e d b))
  regrown (next {rs = rs} t cap₀ u (records.Signature g) s h) b =
      let r = regrown t (before_signed (worked rs) F g (signature_taken (worked rs) g h) b) in
      record {
        by = r.by;
        items = r.items;
        entities = r.entities;
        sorts = r.sorts;
        versions = r.versions;
        edges = r.edges;
        accepted = r.accepted;
        last = r.last;
      }
