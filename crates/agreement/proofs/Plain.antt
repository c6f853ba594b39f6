-- A plain list whose records are taken in: its working is grown as the trace theorem asks, its rows are sound.
use Rattle.std.specs.Prelude.{Ok}
use Prim.Native.Nat.{◌<◌}
use native.Mathlib.Omega.{arith}
use mathlib.Core.Path.{◌≡◌, refl, sym, subst}
use mathlib.Core.List.{List, ◌∷◌, []}
use Rattle.record.specs.declared.Event.{Event}
use Rattle.record.specs.declared.Record.{Record}
use Rattle.record.specs.declared.Record.TheVariants as records
use Rattle.rules.specs.declared.Decision.{Decision}
use Rattle.rules.specs.declared.Decision.TheVariants.{Repeat, Widen, Renew}
use Rattle.rules.specs.Trail.{Capacity, Trail, none, latest_of}
use Rattle.rules.specs.Decide.{decision_of}
use Rattle.rules.specs.Record.{happened, refusal_of, change_of}
use Rattle.rules.specs.PlainList.{changed, worked, items_of}
use Rattle.rules.specs.History.{Item, item_of, accepted, kept, dropped}
use Rattle.rules.specs.StandsFor.{last_time}
use Rattle.soundness.specs.Facts.{CountFacts, RowFacts}
use Rattle.soundness.specs.Taken.{EventTaken, SortFits}
use Rattle.soundness.proofs.Taken.{event-taken, signature_taken}
use Rattle.soundness.proofs.Step.{step_rows, step_counts, fresh_rows, fresh-counts}
use Rattle.soundness.proofs.TableStep.{counts-changed}
use Rattle.causality.specs.Working.{last_of, Fit, Grown}
use Rattle.causality.proofs.Same.{grown-same}
use Rattle.agreement.specs.Taken.{greatest, Within, Taken, begun, next}
use Rattle.agreement.proofs.Growing.{declares, repeats, widens, renews, repeat_may_drop, signs}

pub record Fine (T : Trail) (hs : List Item) : Type 0 where
  pub rows : RowFacts T
  pub counted : CountFacts greatest T.counts
  pub grown : Grown T hs
  pub last : T.counts.last ≡ last_of hs

module _ (cap : Capacity) (w : Within cap) (T : Trail) (hs : List Item) (f : Fine T hs) where
  module _ (e : Event) where
    fit : (d : Decision) → EventTaken cap T e d → Fit T (last_of hs) e
    fit d p = record {
      source_in = p.source_in;
      target_in = p.target_in;
      apart = p.apart;
      not_earlier = omega (arith, p.not_earlier, f.last);
      positive = p.positive;
    }

    latest_some : e.target.0 < T.counts.entities → latest_of T e.target.0 ≡ none → ⊥
    latest_some h q = let a = (f.rows.entity e.target.0 h).latest_in in let b = f.counted.versions_in in omega arith

    grown-event : (d : Decision) → decision_of T e ≡ d → EventTaken cap T e d → Grown (changed T (happened T e d)) (item_of d e ∷ hs)
    grown-event (Repeat k) q p = grown-same (Grown.repeated f.grown e (fit (Repeat k) p) (repeat_may_drop T e k q)) (repeats cap T e k p)
    grown-event Widen q p = Grown.entered f.grown e (fit Widen p) _ (widens cap T e Widen p q)
    grown-event Renew q p = Grown.entered f.grown e (fit Renew p) _ (renews cap T e Renew p (latest_some p.target_in))

    last_event : (d : Decision) → (changed T (happened T e d)).counts.last ≡ last_of (item_of d e ∷ hs)
    last_event (Repeat k) = refl
    last_event Widen = refl
    last_event Renew = refl

-- one record more

counts_next : (cap : Capacity) → Within cap → (T : Trail) → CountFacts greatest T.counts → (r : Record) → refusal_of cap T r ≡ Ok tt
    → CountFacts greatest (changed T (change_of T r)).counts
counts_next cap w T g r h = subst (CountFacts greatest) (sym (counts-changed T (change_of T r))) (step_counts cap greatest w.entities w.versions w.edges T g r h)

fine_next : (cap : Capacity) → Within cap → (rs : List Record) → Fine (worked rs) (items_of rs) → (r : Record) → SortFits r
    → refusal_of cap (worked rs) r ≡ Ok tt → Fine (worked (r ∷ rs)) (items_of (r ∷ rs))
unfolding refusal_of change_of
fine_next cap w rs f (records.Declaration d) s h = record {
  rows = step_rows cap (worked rs) (records.Declaration d) s h f.rows;
  counted = counts_next cap w (worked rs) f.counted (records.Declaration d) h;
  grown = Grown.declared f.grown (declares (worked rs) d);
  last = f.last;
}
fine_next cap w rs f (records.Event e) s h =
    let T = worked rs in
    let d = decision_of T e in
    let p = event-taken cap T e h in
    record {
      rows = step_rows cap T (records.Event e) s h f.rows;
      counted = counts_next cap w T f.counted (records.Event e) h;
      grown = grown-event cap w T (items_of rs) f e d refl p;
      last = last_event cap w T (items_of rs) f e d;
    }
fine_next cap w rs f (records.Signature g) s h = record {
  rows = step_rows cap (worked rs) (records.Signature g) s h f.rows;
  counted = counts_next cap w (worked rs) f.counted (records.Signature g) h;
  grown = grown-same f.grown (signs (worked rs) g (signature_taken (worked rs) g h));
  last = f.last;
}

pub taken_fine : {rs : List Record} → Taken rs → Fine (worked rs) (items_of rs)
taken_fine begun = record { rows = fresh_rows _ refl; counted = fresh-counts greatest; grown = Grown.begun refl refl refl; last = refl }
taken_fine (next {rs = rs} t cap w r s h) = fine_next cap w rs (taken_fine t) r s h

pub last_of-accepted : (hs : List Item) → last_of hs ≡ last_time (accepted hs)
last_of-accepted [] = refl
last_of-accepted (kept e ∷ hs) = refl
last_of-accepted (dropped e ∷ hs) = refl
