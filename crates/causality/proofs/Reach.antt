-- Causal paths as a recurrence over the list of events.
use Prim.Native.Nat.{ℕ}
use mathlib.Core.Path.{◌≡◌, refl, sym}
use mathlib.Core.Logic.{◌⊎◌, inl, inr, ◌↔◌}
use mathlib.Core.List.{List, [], ◌∷◌}
use Rattle.record.specs.declared.Event.{Event}
use Rattle.rules.specs.Paths.{Links, Part, done, skip, take, CausalPath, All}

abbrev pub Reach : List Event → ℕ → ℕ → Type 0
Reach [] x y = x ≡ y
Reach (e ∷ es) x y = Reach es x y ⊎ ((y ≡ e.target.0) × Reach es x e.source.0)

pub All-imp : {p q : Event → Type 0} → ((e : Event) → p e → q e) → (es : List Event) → All p es → All q es
All-imp h [] a = tt
All-imp h (e ∷ es) a = (h e a.0, All-imp h es a.1)

pub All-part : (p : Event → Type 0) {c es : List Event} → Part c es → All p es → All p c
All-part p done a = tt
All-part p (skip s) a = All-part p s a.1
All-part p (take s) a = (a.0, All-part p s a.1)

-- a part of events none of which may be of it is empty
pub part_none : (p q : Event → Type 0) → ((e : Event) → p e → q e → ⊥) → {c es : List Event} → Part c es → All p es → All q c → c ≡ []
part_none p q n done a b = refl
part_none p q n (skip s) a b = part_none p q n s a.1 b
part_none p q n (take {e = e} s) a b = absurd (n e a.0 b.0)

pub part_nil : (es : List Event) → Part [] es
part_nil [] = done
part_nil (e ∷ es) = skip (part_nil es)

pub reach_refl : (es : List Event) (x : ℕ) → Reach es x x
reach_refl [] x = refl
reach_refl (e ∷ es) x = inl (reach_refl es x)

pub reach_part : {c es : List Event} → Part c es → (x y : ℕ) → Reach c x y → Reach es x y
reach_part done x y r = r
reach_part (skip s) x y r = inl (reach_part s x y r)
reach_part (take s) x y (inl r) = inl (reach_part s x y r)
reach_part (take {e = e} s) x y (inr r) = inr (r.0, reach_part s x e.source.0 r.1)

-- from an entity that no event leaves, nothing else is reached
pub reach_stuck : (es : List Event) (x y : ℕ) → All (λ e. e.source.0 ≡ x → ⊥) es → Reach es x y → x ≡ y
reach_stuck [] x y a r = r
reach_stuck (e ∷ es) x y a (inl r) = reach_stuck es x y a.1 r
reach_stuck (e ∷ es) x y a (inr r) = absurd (a.0 (sym (reach_stuck es x e.source.0 a.1 r.1)))

-- to an entity that no event enters, nothing else leads
pub reach_never : (es : List Event) (x y : ℕ) → All (λ e. e.target.0 ≡ y → ⊥) es → Reach es x y → x ≡ y
reach_never [] x y a r = r
reach_never (e ∷ es) x y a (inl r) = reach_never es x y a.1 r
reach_never (e ∷ es) x y a (inr r) = absurd (a.0 (sym r.0))

-- the recurrence is the paths

to_path : (es : List Event) (x y : ℕ) → Reach es x y → CausalPath es x y
to_path [] x y r = record { path = []; links = r; order = done }
to_path (e ∷ es) x y (inl r) = let p = to_path es x y r in record { path = p.path; links = p.links; order = skip p.order }
to_path (e ∷ es) x y (inr r) =
    let p = to_path es x e.source.0 r.1 in
    record { path = e ∷ p.path; links = (r.0, p.links); order = take p.order }

from_path : {p es : List Event} → Part p es → (x y : ℕ) → Links x y p → Reach es x y
from_path done x y l = l
from_path (skip s) x y l = inl (from_path s x y l)
from_path (take {e = e} s) x y l = inr (l.0, from_path s x e.source.0 l.1)

pub reach_path : (es : List Event) (x y : ℕ) → Reach es x y ↔ CausalPath es x y
reach_path es x y = (to_path es x y, λ p. from_path p.order x y p.links)
