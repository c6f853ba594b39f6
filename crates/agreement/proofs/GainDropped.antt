-- The event at 6 is kept in whatever way the accepted events of the worked list are kept or dropped: by it the report gains the montage,
-- which has no path to it in by 5 (P3).
use Prim.Native.Nat.{ℕ}
use native.Mathlib.Omega.{arith}
use mathlib.Core.Path.{◌≡◌, refl, sym, ◌∙◌, ap, subst}
use mathlib.Core.Logic.{◌⊎◌, inl, inr}
use mathlib.Core.List.{List, [], ◌∷◌, Memᴰ}
use lib.ListN.{get_or}
use Rattle.record.specs.declared.Kind.TheVariants.{Read, Write}
use Rattle.record.specs.declared.Event.{Event}
use Rattle.rules.specs.declared.BackwardAnswer.{BackwardAnswer}
use Rattle.rules.specs.Paths.{done, skip, take, CausalPath, PathBy, Gains}
use Rattle.rules.specs.History.{Item, kept, dropped, accepted, kept_events}
use Rattle.rules.specs.PlainList.{items_of}
use Rattle.causality.proofs.Parts.{up_to}
use Rattle.causality.proofs.PathsBy.{causal_by}
use Rattle.agreement.specs.Demand3.{GainsAreKept}
use Rattle.agreement.specs.Refuted.{worked_plain}
use Rattle.agreement.proofs.WorkedAnswers.{rows, four, backward_right}
use Rattle.agreement.proofs.WorkedEvents.{event, items_by_5, items_by_7, computed}

abbrev by_5 : List Event
by_5 = accepted items_by_5

worked-events : accepted (items_of worked_plain) ≡ accepted items_by_7
worked-events = ap accepted computed.items

-- the events with time ≤ 5 give no path from the montage to the report
no_path : CausalPath by_5 3 2 → ⊥
unfolding up_to
no_path p =
    let m = (((backward_right rows.p3_at_5).marks_are (ap (λ (a : BackwardAnswer). a.refusal) rows.p3_at_5.0)).marked 3 (omega (arith, four))).1 (subst (λ (es : List Event). PathBy es 5 3 2) (sym worked-events) ((causal_by 5 (accepted items_by_7) 3 2).0 p)) in
    omega (arith, m, ap (λ (l : List ℕ). get_or l 3 0) rows.p3_at_5.1)

gains_montage : Gains by_5 (event Write 1 2 6) 3
gains_montage = ((λ q. omega arith, path), λ a. no_path a.1)
  where
    path : CausalPath (event Write 1 2 6 ∷ by_5) 3 2
    path = record {
      path = event Write 1 2 6 ∷ event Read 3 1 5 ∷ [];
      links = (refl, (refl, refl));
      order = take (take (skip (skip (skip (skip done)))));
    }

-- the last accepted of a list of items, kept or dropped, and the items before it
record LastItem (hs : List Item) (e : Event) (es : List Event) : Type 0 where
  item : Item
  earlier : List Item
  split : hs ≡ item ∷ earlier
  is : (item ≡ kept e) ⊎ (item ≡ dropped e)
  before : accepted earlier ≡ es

last_item : (hs : List Item) (e : Event) (es : List Event) → accepted hs ≡ e ∷ es → LastItem hs e es
last_item [] e es q = absurd (let z : ◌≡◌ {A = ℕ} 0 1 = cc in omega arith)
last_item (kept d ∷ hs) e es q = record { item = kept d; earlier = hs; split = refl; is = inl cc; before = cc }
last_item (dropped d ∷ hs) e es q = record { item = dropped d; earlier = hs; split = refl; is = inr cc; before = cc }

kept_among : (g : Item) (e : Event) (hs : List Item) → Memᴰ e (kept_events (g ∷ kept e ∷ hs))
kept_among (kept d) e hs = Memᴰ.tail (Memᴰ.head refl)
kept_among (dropped d) e hs = Memᴰ.head refl

abbrev Kept : List Item → Type 0
Kept hs = (e : Event) × Memᴰ e (kept_events hs) × (e.time ≡ 6)

pub time_6_kept : (hs : List Item) → accepted hs ≡ accepted (items_of worked_plain) → GainsAreKept hs → Kept hs
time_6_kept hs q g = go b.is
  where
    e : Event
    e = event Write 1 2 6

    a : LastItem hs (event Read 3 1 7) (e ∷ by_5)
    a = last_item hs _ _ (q ∙ worked-events)

    b : LastItem a.earlier e by_5
    b = last_item a.earlier _ _ a.before

    split : (h : Item) → b.item ≡ h → hs ≡ a.item ∷ h ∷ b.earlier
    split h p = a.split ∙ ap (λ (l : List Item). a.item ∷ l) (b.split ∙ ap (λ (i : Item). i ∷ b.earlier) p)

    go : (b.item ≡ kept e) ⊎ (b.item ≡ dropped e) → Kept hs
    go (inl p) = subst Kept (sym (split (kept e) p)) (e, kept_among a.item e b.earlier, refl)
    go (inr p) = absurd (g (a.item ∷ []) b.earlier e 3 (split (dropped e) p) (subst (λ (es : List Event). Gains es e 3) (sym b.before) gains_montage))
