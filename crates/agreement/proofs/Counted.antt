-- Document 02, 2.1: the count and the last time of each edge are those of the events that it stands for, and where every event is kept,
-- each edge stands for its own alone. Whatever becomes of an event, one edge's row is written for it.
use Prim.Native.Nat.{ℕ, ◌+◌, ◌≤◌, ◌<◌}
use native.Mathlib.Omega.{arith}
use mathlib.Core.Path.{◌≡◌, refl, sym, ◌∙◌, ap}
use mathlib.Core.Bool.{cond}
use mathlib.Core.List.{List, [], ◌∷◌}
use lib.ListN.{length}
use lib.Dec.{eqb}
use borrow.Author.Tests.{eq-eqb, ne_eqb}
use Rattle.rows.specs.declared.EdgeRow.{EdgeRow}
use Rattle.record.specs.declared.Event.{Event}
use Rattle.record.specs.declared.Record.{Record}
use Rattle.record.specs.declared.Record.TheVariants as records
use Rattle.rules.specs.declared.Decision.{Decision}
use Rattle.rules.specs.declared.Decision.TheVariants.{Repeat, Widen, Renew}
use Rattle.rules.specs.Trail.{Trail}
use Rattle.rules.specs.Decide.{decision_of}
use Rattle.rules.specs.Record.{happened, change_of}
use Rattle.rules.specs.History.{Item, kept, dropped, item_of}
use Rattle.rules.specs.PlainList.{put, changed, worked, items_of}
use Rattle.rules.specs.StandsFor.{edge_for, stands_for, last_time}
use Rattle.soundness.proofs.Put.{put_each}
use Rattle.soundness.proofs.Hit.{decision_found}
use Rattle.agreement.proofs.KeptOnly.{all_kept}

-- n edges with rows E stand for the events S of their numbers, and there are no events past them
pub record Stands (n : ℕ) (E : ℕ → EdgeRow) (S : ℕ → List Event) : Type 0 where
  pub count_is : (k : ℕ) → k < n → (E k).count ≡ length (S k)
  pub last_is : (k : ℕ) → k < n → (E k).last ≡ last_time (S k)
  pub past : (k : ℕ) → n ≤ k → S k ≡ []

-- one event more for edge m
abbrev one_more : Event → ℕ → (ℕ → List Event) → ℕ → List Event
one_more e m S k = cond (eqb m k) (e ∷ S k) (S k)

module _ (e : Event) (m : ℕ) (S : ℕ → List Event) where
  more_same : one_more e m S m ≡ e ∷ S m
  more_same = rw (eq-eqb m m refl)

  more_other : (k : ℕ) → (k ≡ m → ⊥) → one_more e m S k ≡ S k
  more_other k h = rw (ne_eqb m k (λ q. h (sym q)))

  stands_more : (n n' : ℕ) (E : ℕ → EdgeRow) (r : EdgeRow) → Stands n E S → r.count ≡ length (S m) + 1 → r.last ≡ e.time → m < n' → n ≤ n'
      → ((k : ℕ) → (k ≡ m → ⊥) → k < n' → k < n) → Stands n' (put E m r) (one_more e m S)
  stands_more n n' E r s count last here le old = record {
    count_is = put_each E m r (λ k x. k < n' → x.count ≡ length (one_more e m S k)) (λ l. rw more_same (omega (arith, count)))
        (λ k h l. s.count_is k (old k h l) ∙ ap length (sym (more_other k h)));
    last_is = put_each E m r (λ k x. k < n' → x.last ≡ last_time (one_more e m S k)) (λ l. rw more_same last)
        (λ k h l. s.last_is k (old k h l) ∙ ap last_time (sym (more_other k h)));
    past = λ k l. more_other k (λ q. omega arith) ∙ s.past k (omega arith);
  }

-- an edge is kept for the event
kept_stands : (T : Trail) (S : ℕ → List Event) → Stands T.counts.edges T.edge S → (e : Event) (r : EdgeRow) → r.count ≡ 1 → r.last ≡ e.time
    → Stands (T.counts.edges + 1) (put T.edge T.counts.edges r) (one_more e T.counts.edges S)
kept_stands T S s e r count last =
    let z = ap length (s.past T.counts.edges (omega arith)) in
    stands_more e T.counts.edges S T.counts.edges _ T.edge r s (omega arith) last (omega arith) (omega arith) (λ j h i. omega arith)

event_stands : (T : Trail) (S : ℕ → List Event) → Stands T.counts.edges T.edge S → (e : Event) (d : Decision) → decision_of T e ≡ d
    → Stands (changed T (happened T e d)).counts.edges (changed T (happened T e d)).edge (one_more e (edge_for T d) S)
event_stands T S s e (Repeat k) q =
    let l = (decision_found T e k q).0 in
    stands_more e k.0 S T.counts.edges _ T.edge _ s (ap (λ (n : ℕ). n + 1) (s.count_is k.0 l)) refl l (omega arith) (λ j h i. i)
event_stands T S s e Widen q = kept_stands T S s e _ refl refl
event_stands T S s e Renew q = kept_stands T S s e _ refl refl

pub worked_stands : (rs : List Record) → Stands (worked rs).counts.edges (worked rs).edge (stands_for rs)
unfolding stands_for change_of
worked_stands [] = record { count_is = λ k l. absurd (omega arith); last_is = λ k l. absurd (omega arith); past = λ k l. refl }
worked_stands (records.Declaration d ∷ rs) = worked_stands rs
worked_stands (records.Event e ∷ rs) = event_stands (worked rs) (stands_for rs) (worked_stands rs) e (decision_of (worked rs) e) refl
worked_stands (records.Signature g ∷ rs) = worked_stands rs

-- Where every event is kept

abbrev pub AllKept : List Item → Type 0
AllKept [] = Unit {0}
AllKept (kept e ∷ hs) = AllKept hs
AllKept (dropped e ∷ hs) = ⊥

pub all_kept_are : (ks : List Event) → AllKept (all_kept ks)
all_kept_are [] = tt
all_kept_are (e ∷ ks) = all_kept_are ks

-- the row of an edge that stands for its own event alone
abbrev Own : EdgeRow → Type 0
Own r = (r.count ≡ 1) × (r.last ≡ r.time)

abbrev AllOwn : Trail → Type 0
AllOwn T = (k : ℕ) → k < T.counts.edges → Own (T.edge k)

kept_own : (T : Trail) (r : EdgeRow) → AllOwn T → Own r → (k : ℕ) → k < T.counts.edges + 1 → Own (put T.edge T.counts.edges r k)
kept_own T r old own = put_each T.edge T.counts.edges r (λ k x. k < T.counts.edges + 1 → Own x) (λ l. own) (λ k h l. old k (omega arith))

event_own : (T : Trail) (e : Event) (d : Decision) (hs : List Item) → (AllKept hs → AllOwn T) → AllKept (item_of d e ∷ hs) → AllOwn (changed T (happened T e d))
event_own T e (Repeat j) hs ih a = absurd a
event_own T e Widen hs ih a = kept_own T _ (ih a) (refl, refl)
event_own T e Renew hs ih a = kept_own T _ (ih a) (refl, refl)

pub worked_own : (rs : List Record) → AllKept (items_of rs) → AllOwn (worked rs)
unfolding change_of
worked_own [] a = λ k l. absurd (omega arith)
worked_own (records.Declaration d ∷ rs) a = worked_own rs a
worked_own (records.Event e ∷ rs) a = event_own (worked rs) e (decision_of (worked rs) e) (items_of rs) (worked_own rs) a
worked_own (records.Signature g ∷ rs) a = worked_own rs a
