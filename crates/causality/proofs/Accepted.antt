-- The accepted events of a grown trail: between declared entities, times from 1 to the last, not falling.
use Prim.Native.Nat.{ℕ, ◌≤◌, ◌<◌}
use native.Mathlib.Omega.{arith}
use mathlib.Core.Path.{◌≡◌, refl}
use mathlib.Core.Logic.{inl, inr}
use mathlib.Core.List.{List, [], ◌∷◌}
use Rattle.record.specs.declared.Event.{Event}
use Rattle.rules.specs.Trail.{Trail}
use Rattle.rules.specs.Paths.{All}
use Rattle.rules.specs.History.{Item, accepted}
use Rattle.causality.specs.Working.{ne, last_of, Fit, Grown}
use Rattle.causality.specs.Times.{Ordered}
use Rattle.causality.proofs.Growth.{grown_ind, OnDeclared, OnDropped, OnKept}
use Rattle.causality.proofs.Reach.{Reach, All-imp}

pub record Within (n last : ℕ) (e : Event) : Type 0 where
  pub source_in : e.source.0 < n
  pub target_in : e.target.0 < n
  pub positive : 1 ≤ e.time
  pub by : e.time ≤ last

abbrev Events : Trail → List Item → Type 0
Events T hs = All (Within (ne T) (last_of hs)) (accepted hs) × Ordered (accepted hs)

more : {n m l k : ℕ} → n ≤ m → l ≤ k → (e : Event) → Within n l e → Within m k e
more h j e w =
    record { source_in = omega (arith, w.source_in); target_in = omega (arith, w.target_in); positive = w.positive; by = omega (arith, w.by) }

grown-events : {T : Trail} {hs : List Item} → Grown T hs → Events T hs
grown-events g = grown_ind Events (λ T _ _ _. (tt, tt)) decl drop keep g
  where
    add : (n : ℕ) (T : Trail) (hs : List Item) (e : Event) → Fit T (last_of hs) e → n ≡ ne T → Events T hs
        → All (Within n e.time) (e ∷ accepted hs) × Ordered (e ∷ accepted hs)
    add n T hs e f q o = (
      (
        record { source_in = omega (arith, f.source_in); target_in = omega (arith, f.target_in); positive = f.positive; by = omega arith },
        All-imp (more (omega arith) f.not_earlier) (accepted hs) o.0,
      ),
      (All-imp (λ d w. omega (arith, w.by, f.not_earlier)) (accepted hs) o.0, o.1),
    )

    decl : OnDeclared Events
    decl T T' hs g d o = (All-imp (more (omega (arith, d.row.ne_is)) (omega arith)) (accepted hs) o.0, o.1)

    drop : OnDropped Events
    drop T hs e g f r o = add (ne T) T hs e f refl o

    keep : OnKept Events
    keep T T' hs e w g k o = add (ne T') T hs e k.fit k.now.row.ne_is o

pub grown_within : {T : Trail} {hs : List Item} → Grown T hs → All (Within (ne T) (last_of hs)) (accepted hs)
grown_within g = (grown-events g).0

pub grown_ordered : {T : Trail} {hs : List Item} → Grown T hs → Ordered (accepted hs)
grown_ordered g = (grown-events g).1

pub reach_within : (n l : ℕ) (es : List Event) → All (Within n l) es → (x y : ℕ) → x < n → Reach es x y → y < n
reach_within n l [] a x y h r = rw (← r) h
reach_within n l (e ∷ es) a x y h (inl r) = reach_within n l es a.1 x y h r
reach_within n l (e ∷ es) a x y h (inr r) = rw r.0 a.0.target_in

pub reach_source : (n l : ℕ) (es : List Event) → All (Within n l) es → (x y : ℕ) → y < n → Reach es x y → x < n
reach_source n l [] a x y h r = rw r h
reach_source n l (e ∷ es) a x y h (inl r) = reach_source n l es a.1 x y h r
reach_source n l (e ∷ es) a x y h (inr r) = reach_source n l es a.1 x e.source.0 a.0.source_in r.1
