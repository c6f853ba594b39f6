-- With the event at 8, a causal path leads from the study by the stager's two versions to the montage, and from the montage none through
-- later events.
use Prim.Native.Nat.{ℕ}
use native.Mathlib.Omega.{arith}
use mathlib.Core.Path.{◌≡◌, refl, sym, subst}
use mathlib.Core.List.{List, [], ◌∷◌}
use lib.ListN.{get_or}
use Rattle.record.specs.declared.Kind.TheVariants.{Read, Write}
use Rattle.record.specs.declared.Event.{Event}
use Rattle.rules.specs.Backward.{BackwardTrace}
use Rattle.rules.specs.Forward.{ForwardTrace}
use Rattle.rules.specs.Paths.{Links, Part, done, skip, take, CausalPath, PathBy}
use Rattle.rules.specs.History.{Item, kept, accepted, into, since, Reached}
use Rattle.agreement.specs.Demand3.{BackwardAgrees, ForwardAgrees}
use Rattle.agreement.specs.Refuted.{longer_plain}
use Rattle.agreement.proofs.OneEntity.{one_entity}
use Rattle.agreement.proofs.WorkedEvents.{event, items_by_7, computed}

abbrev longer : List Item
longer = kept (event Write 1 3 8) ∷ items_by_7

study_to_montage : CausalPath (accepted longer) 0 3
study_to_montage = record {
  path = event Write 1 3 8 ∷ event Read 0 1 1 ∷ [];
  links = (refl, (refl, refl));
  order = take (skip (skip (skip (skip (skip (skip (take done)))))));
}

pub montage_back : {work marks : List ℕ} (b : BackwardTrace) → BackwardAgrees longer_plain 3 8 work marks b → b.answer.refusal ≡ 0 → get_or b.marks 0 0 ≡ 1
unfolding study_to_montage
montage_back b a z =
    ((a.marks_are z).marked 0 (omega (arith, computed.entities))).1
    (subst (λ (hs : List Item). PathBy (accepted hs) 8 0 3) (sym computed.longer) (study_to_montage, (omega arith, (omega arith, tt))))

-- the study has no intake
pub study_forward : {work marks : List ℕ} (f : ForwardTrace) → ForwardAgrees longer_plain (0 ∷ []) 4 work marks f → f.answer.refusal ≡ 0 → get_or f.marks 3 0 ≡ 1
unfolding since into
study_forward f a z =
    ((((one_entity.of_one longer_plain 0 4 _ _ f).0 a).marks_are z).marked 3 (omega (arith, computed.entities))).1 (subst (λ (hs : List Item). Reached 0 4 hs 3) (sym computed.longer) study_to_montage)

-- the event at 8 is the montage's intake, and nothing is accepted after it
montage_alone : Reached 3 8 longer 1 → ⊥
unfolding since into
montage_alone p = none p.path p.order p.links
  where
    none : (p : List Event) → Part p [] → Links 3 1 p → ⊥
    none p done l = omega arith

pub montage_forward : {work marks : List ℕ} (f : ForwardTrace) → ForwardAgrees longer_plain (3 ∷ []) 8 work marks f → f.answer.refusal ≡ 0 → get_or f.marks 1 0 ≡ 1 → ⊥
montage_forward f a z m =
    montage_alone (subst (λ (hs : List Item). Reached 3 8 hs 1) computed.longer (((((one_entity.of_one longer_plain 3 8 _ _ f).0 a).marks_are z).marked 1 (omega (arith, computed.entities))).0 m))
