-- Where 1 reads 0 at 1 and writes 0 at 2, and 2 is in no event, no causal path leads to 1 from 0 after its intake at 2, nor from 2.
use Prim.Native.Nat.{ℕ}
use native.Mathlib.Omega.{arith}
use mathlib.Core.Path.{◌≡◌, subst}
use mathlib.Core.Logic.{◌⊎◌, inl, inr}
use mathlib.Core.List.Memᴰ
use mathlib.Core.List.{List, [], ◌∷◌, Memᴰ}
use lib.ListN.{get_or}
use Rattle.record.specs.declared.Kind.TheVariants.{Read, Write}
use Rattle.record.specs.declared.Event.{Event}
use Rattle.rules.specs.Paths.{Links, Part, done, skip, take}
use Rattle.rules.specs.History.{Item, kept, into, since, Reached}
use Rattle.rules.specs.Members.{OfAny}
use Rattle.rules.specs.Forward.{ForwardTrace}
use Rattle.rules.specs.MemberCases.{written_plain}
use Rattle.agreement.specs.Demand3.{ForwardAgrees}
use Rattle.agreement.proofs.WorkedEvents.{event, computed}

abbrev items : List Item
items = kept (event Write 1 0 2) ∷ kept (event Read 0 1 1) ∷ []

study_alone : Reached 0 2 items 1 → ⊥
unfolding since into
study_alone p = none p.path p.order p.links
  where
    none : (p : List Event) → Part p [] → Links 0 1 p → ⊥
    none p done l = omega arith

other_alone : Reached 2 2 items 1 → ⊥
unfolding since into
other_alone p = none p.path p.order p.links
  where
    none : (p : List Event) → Part p (event Write 1 0 2 ∷ event Read 0 1 1 ∷ []) → Links 2 1 p → ⊥
    none p (take s) l = omega (arith, l.0)
    none p (skip (take done)) l = omega (arith, l.1)
    none p (skip (skip done)) l = omega arith

pub subject_not_marked : {work marks : List ℕ} (f : ForwardTrace) → ForwardAgrees written_plain (0 ∷ 2 ∷ []) 2 work marks f → f.answer.refusal ≡ 0
    → get_or f.marks 1 0 ≡ 1 → ⊥
subject_not_marked f a z w =
    go (subst (λ (hs : List Item). OfAny (0 ∷ 2 ∷ []) (λ u. Reached u 2 hs) 1) computed.written (((a.marks_are z).marked 1 (omega (arith, computed.written_entities))).0 w))
  where
    at : (u : ℕ) → (u ≡ 0) ⊎ Memᴰ u (2 ∷ []) → Reached u 2 items 1 → ⊥
    at u (inl q) p = study_alone (subst (λ (v : ℕ). Reached v 2 items 1) q p)
    at u (inr m) p = other_alone (subst (λ (v : ℕ). Reached v 2 items 1) (Memᴰ.eq_of_singleton m) p)

    go : OfAny (0 ∷ 2 ∷ []) (λ u. Reached u 2 items) 1 → ⊥
    go (u, m, p) = at u (Memᴰ.cases_cons m) p
