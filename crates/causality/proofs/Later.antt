-- What later events leave alone, and the events later than t, which no forward answer leaves out.
use Prim.Native.Nat.{ℕ, ◌≤◌, ◌<◌}
use native.Mathlib.Omega.{arith}
use mathlib.Core.Path.{◌≡◌, refl, ◌∙◌}
use mathlib.Core.Logic.{◌⊎◌, inl, inr}
use mathlib.Core.Bool.{cond}
use mathlib.Core.List.{List, [], ◌∷◌, ◌++◌}
use Rattle.record.specs.declared.Event.{Event}
use Rattle.rules.specs.Paths.{Part, done, skip, take, All}
use Rattle.rules.specs.History.{Item, kept, dropped, accepted, into, since}
use Rattle.causality.specs.Working.{last_of}
use Rattle.causality.specs.Times.{Ordered}
use Rattle.causality.proofs.Reach.{All-imp, part_none}
use Rattle.causality.proofs.Parts.{IntoCase, into_cases, up_to, up_to_out}

last_le : (n : ℕ) (more hs : List Item) → All (λ d. d.time ≤ n) (accepted (more ++ hs)) → last_of hs ≤ n
last_le n [] [] a = omega arith
last_le n [] (kept e ∷ hs) a = a.0
last_le n [] (dropped e ∷ hs) a = a.0
last_le n (kept e ∷ more) hs a = last_le n more hs a.1
last_le n (dropped e ∷ more) hs a = last_le n more hs a.1

-- events accepted after one that is later than t are not by t
up_to_more : (t : ℕ) (more hs : List Item) → Ordered (accepted (more ++ hs)) → t < last_of hs → up_to t (accepted (more ++ hs)) ≡ up_to t (accepted hs)
up_to_more t [] hs o l = refl
up_to_more t (kept e ∷ more) hs o l =
    up_to_out t e (accepted (more ++ hs)) (omega (arith, last_le e.time more hs o.0)) ∙ up_to_more t more hs o.1 l
up_to_more t (dropped e ∷ more) hs o l =
    up_to_out t e (accepted (more ++ hs)) (omega (arith, last_le e.time more hs o.0)) ∙ up_to_more t more hs o.1 l

pub up_to-same : (t : ℕ) (more hs : List Item) → Ordered (accepted (more ++ hs)) → (t < last_of hs) ⊎ (more ≡ []) → up_to t (accepted (more ++ hs)) ≡ up_to t (accepted hs)
up_to-same t more hs o (inl l) = up_to_more t more hs o l
up_to-same t more hs o (inr q) = rw q

-- events later than t are all after the latest kept intake by t
pub after-since : (u t : ℕ) (hs : List Item) → Ordered (accepted hs) → (p : List Event) → Part p (accepted hs) → All (λ e. t < e.time) p
    → Part p (since u t hs)
unfolding since
after-since u t [] o p done a = done
after-since u t (dropped e ∷ hs) o p (skip s) a = skip (after-since u t hs o.1 p s a)
after-since u t (dropped e ∷ hs) o p (take {p = c} s) a = take (after-since u t hs o.1 c s a.1)
after-since u t (kept e ∷ hs) o p s a = go (into_cases u t e) p s a (after-since u t hs o.1)
  where
    none : e.time ≤ t → (p : List Event) → Part p (e ∷ accepted hs) → All (λ d. t < d.time) p → p ≡ []
    none l p r a = part_none (λ d. d.time ≤ t) (λ d. t < d.time) (λ d k m. omega arith) r (l, All-imp (λ d k. omega (arith, k)) (accepted hs) o.0) a

    go : IntoCase u t e → (p : List Event) → Part p (e ∷ accepted hs) → All (λ d. t < d.time) p
        → ((c : List Event) → Part c (accepted hs) → All (λ d. t < d.time) c → Part c (since u t hs)) → Part p (cond (into u t e) [] (e ∷ since u t hs))
    go (inl c) p r a ih = rw (c.2, none c.1 p r a) done
    go (inr c) p (skip r) a ih = rw c.1 (skip (ih p r a))
    go (inr c) p (take {p = d} r) a ih = rw c.1 (take (ih d r a.1))
