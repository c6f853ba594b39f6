-- The entities with a version that leads to the latest version of y: those with a causal path to y. A dropped event adds
-- none.
use Prim.Native.Nat.{ℕ, ◌<◌}
use native.Mathlib.Omega.{arith}
use mathlib.Core.Path.{◌≡◌, sym, ◌∙◌, subst}
use mathlib.Core.Logic.{inl, inr, ◌↔◌}
use mathlib.Core.List.{List, [], ◌∷◌, ◌++◌}
use Rattle.record.specs.declared.Event.{Event}
use Rattle.rules.specs.Trail.{Trail, latest_of, owner_of}
use Rattle.rules.specs.History.{Item, kept, dropped, accepted, since}
use Rattle.rules.specs.Forward.{ForwardMarks}
use Rattle.causality.specs.Working.{ne, nv, last_of, Fit, MayDrop, Grown}
use Rattle.causality.proofs.Invariant.{Inv}
use Rattle.causality.proofs.Growth.{inv, grown_ind}
use Rattle.causality.proofs.Reach.{Reach, All-imp}
use Rattle.causality.proofs.Parts.{since_all}
use Rattle.causality.proofs.Accepted.{grown_within, reach_source}
use Rattle.causality.proofs.Walk.{StartsAt, walk_start, starts_in, starts_owner, starts_some}
use Rattle.causality.proofs.ForwardMarks.{fwd_trans}
use Rattle.causality.proofs.Upward.{leads_up, first}
use Rattle.causality.proofs.Forward.{forward_latest}

pub record LeadsFrom (T : Trail) (x y : ℕ) : Type 0 where
  pub version : ℕ
  pub inside : version < nv T
  pub owner : owner_of T version ≡ x
  pub leads : ForwardMarks T version (latest_of T y)

pub ancestors : {T : Trail} {hs : List Item} → Grown T hs → (x y : ℕ) → y < ne T → LeadsFrom T x y ↔ Reach (accepted hs) x y
ancestors {T} {hs} g x y h = (to, from)
  where
    i : Inv T (last_of hs)
    i = inv g

    all : since x 0 hs ≡ accepted hs
    all = since_all x 0 hs (All-imp (λ e w _ l. omega (arith, w.positive)) (accepted hs) (grown_within g))

    -- from the start version of x at 0, which is its first
    at : (s : ℕ) → x < ne T → StartsAt T x 0 s → ForwardMarks T s (latest_of T y) ↔ Reach (accepted hs) x y
    at s m r = subst (λ l. ForwardMarks T s (latest_of T y) ↔ Reach l x y) all (forward_latest g x 0 s y m h r)

    to : LeadsFrom T x y → Reach (accepted hs) x y
    to a =
        let m : x < ne T = rw a.owner at (i.owner_in a.version a.inside) in
        let (s, r) = starts_some g x 0 m in
        (at s m r).0 (fwd_trans (first g s a.version (starts_in i m r) a.inside (omega (arith, walk_start r)) (a.owner ∙ sym (starts_owner i m r))) a.leads)

    from : Reach (accepted hs) x y → LeadsFrom T x y
    from z =
        let m = reach_source (ne T) (last_of hs) (accepted hs) (grown_within g) x y h z in
        let (s, r) = starts_some g x 0 m in
        record { version = s; inside = starts_in i m r; owner = starts_owner i m r; leads = (at s m r).1 z }

no_gain : {T : Trail} {hs : List Item} → Grown T hs → (e : Event) → Fit T (last_of hs) e → MayDrop T e
    → (x y : ℕ) → Reach (e ∷ accepted hs) x y → Reach (accepted hs) x y
no_gain g e f l x y (inl r) = r
no_gain g e f l x y (inr r) =
    let a = (ancestors g x e.source.0 f.source_in).1 r.1 in
    rw r.0 ((ancestors g x e.target.0 f.target_in).0
    (record { version = a.version; inside = a.inside; owner = a.owner; leads = fwd_trans a.leads (leads_up g ((inv g).latest_in _ f.source_in) l) }))

-- of each accepted event, with the list before it
abbrev Each : (Item → List Item → Type 0) → List Item → Type 0
Each P [] = Unit {0}
Each P (h ∷ hs) = P h hs × Each P hs

each_at : (P : Item → List Item → Type 0) (later : List Item) (h : Item) (earlier : List Item) → Each P (later ++ (h ∷ earlier)) → P h earlier
each_at P [] h earlier a = a.0
each_at P (x ∷ later) h earlier a = each_at P later h earlier a.1

-- a dropped event gives no entity an ancestor
abbrev pub NoGain : Item → List Item → Type 0
NoGain (kept e) hs = Unit {0}
NoGain (dropped e) hs = (x y : ℕ) → Reach (e ∷ accepted hs) x y → Reach (accepted hs) x y

each_gain : {T : Trail} {hs : List Item} → Grown T hs → Each NoGain hs
each_gain g =
    grown_ind (λ T hs. Each NoGain hs) (λ T _ _ _. tt) (λ T T' hs g d ih. ih) (λ T hs e g f l ih. (no_gain g e f l, ih)) (λ T T' hs e w g k ih. (tt, ih)) g

pub dropped_gains_none : {T : Trail} {hs : List Item} → Grown T hs → (later : List Item) (h : Item) (earlier : List Item) → hs ≡ later ++ (h ∷ earlier)
    → NoGain h earlier
dropped_gains_none g later h earlier q = each_at NoGain later h earlier (subst (λ z. Each NoGain z) q (each_gain g))
