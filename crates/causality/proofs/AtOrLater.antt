-- With strictly rising times, a causal path from u through events at t or later uses none that was accepted before the latest kept intake of u
-- at or before t: the events before the intake are earlier than t, and the intake does not leave u.
use Prim.Native.Nat.{ℕ, ◌≤◌, ◌<◌}
use native.Mathlib.Omega.{arith}
use mathlib.Core.Path.{◌≡◌, sym, ◌∙◌, subst}
use mathlib.Core.Logic.{inl, inr}
use mathlib.Core.Bool.{cond}
use mathlib.Core.List.{List, [], ◌∷◌}
use Rattle.record.specs.declared.Event.{Event}
use Rattle.rules.specs.Trail.{Trail}
use Rattle.rules.specs.Paths.{Links, Part, done, skip, take, CausalPath, All}
use Rattle.rules.specs.History.{Item, kept, dropped, accepted, into, since, Reached}
use Rattle.causality.specs.Working.{Grown}
use Rattle.causality.specs.Times.{Strict}
use Rattle.causality.proofs.Growth.{grown_ind}
use Rattle.causality.proofs.Reach.{part_none}
use Rattle.causality.proofs.Parts.{IntoCase, into_cases}

-- no event leads from an entity to itself
abbrev Apart : Event → Type 0
Apart e = e.source.0 ≡ e.target.0 → ⊥

grown_apart : {T : Trail} {hs : List Item} → Grown T hs → All Apart (accepted hs)
grown_apart g =
    grown_ind (λ T hs. All Apart (accepted hs)) (λ T _ _ _. tt) (λ T T' hs g d o. o) (λ T hs e g f r o. (f.apart, o)) (λ T T' hs e w g k o. (k.fit.apart, o)) g

module _ (u t : ℕ) where
  abbrev From : List Event → Type 0
  From = All (λ e. t ≤ e.time)

  from_part : (hs : List Item) → Strict (accepted hs) → All Apart (accepted hs) → (y : ℕ) (p : List Event) → Part p (accepted hs) → Links u y p → From p
      → Part p (since u t hs)
  unfolding since
  from_part [] f o y p done l a = done
  from_part (dropped e ∷ hs) f o y p (skip s) l a = skip (from_part hs f.1 o.1 y p s l a)
  from_part (dropped e ∷ hs) f o y p (take {p = c} s) l a = take (from_part hs f.1 o.1 e.source.0 c s l.1 a.1)
  from_part (kept e ∷ hs) f o y p s l a = go (into_cases u t e) p s l a (from_part hs f.1 o.1)
    where
      -- of the events accepted before the intake e
      none : e.time ≤ t → (c : List Event) → Part c (accepted hs) → From c → c ≡ []
      none h c r b = part_none (λ d. d.time < e.time) (λ d. t ≤ d.time) (λ d k m. omega arith) r f.0 b

      go : IntoCase u t e → (p : List Event) → Part p (e ∷ accepted hs) → Links u y p → From p
          → ((z : ℕ) (c : List Event) → Part c (accepted hs) → Links u z c → From c → Part c (since u t hs)) → Part p (cond (into u t e) [] (e ∷ since u t hs))
      go (inl c) p (skip r) l a ih = rw (c.2, none c.1 p r a) done
      go (inl c) p (take {p = d} r) l a ih =
          let m : u ≡ e.source.0 = subst (Links u e.source.0) (none c.1 d r a.1) l.1 in
          absurd (o.0 (sym m ∙ sym c.0))
      go (inr c) p (skip r) l a ih = rw c.1 (skip (ih y p r l a))
      go (inr c) p (take {p = d} r) l a ih = rw c.1 (take (ih e.source.0 d r l.1 a.1))

pub from-since : {T : Trail} {hs : List Item} → Grown T hs → Strict (accepted hs) → (u t y : ℕ) (p : CausalPath (accepted hs) u y)
    → All (λ e. t ≤ e.time) p.path → Reached u t hs y
from-since {hs = hs} g f u t y p a = record { path = p.path; links = p.links; order = from_part u t hs f (grown_apart g) y p.path p.order p.links a }
