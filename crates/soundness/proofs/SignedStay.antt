-- What stays of a signed object when a record is taken in: an event does not go into it, and it is not signed again.
use Prim.Native.Nat.{ℕ, ◌≤◌, ◌<◌, ◌+◌}
use native.Mathlib.Omega.{arith}
use mathlib.Core.Path.{◌≡◌, refl, sym, ◌∙◌, ap}
use mathlib.Core.Bool.{true, false, true≢false}
use Rattle.rows.specs.declared.VersionRow.{VersionRow}
use Rattle.rows.specs.declared.EdgeRow.{EdgeRow}
use Rattle.record.specs.declared.Declaration.{Declaration}
use Rattle.record.specs.declared.Event.{Event}
use Rattle.record.specs.declared.Signature.{Signature}
use Rattle.rules.specs.declared.Decision.{Decision}
use Rattle.rules.specs.declared.Decision.TheVariants.{Repeat, Widen, Renew}
use Rattle.rules.specs.Trail.{Capacity, Trail, latest_of, owner_of}
use Rattle.rules.specs.Sound.{is_signed}
use Rattle.rules.specs.Decide.{decision_of}
use Rattle.rules.specs.Record.{declared, happened, signed, kept_edge}
use Rattle.rules.specs.PlainList.{changed}
use Rattle.soundness.specs.Facts.{RowFacts}
use Rattle.soundness.specs.Taken.{EventTaken, SignatureTaken}
use Rattle.soundness.specs.Frame.{SignedStays}
use Rattle.soundness.proofs.Put.{put_same, put_other, put_each}
use Rattle.soundness.proofs.Hit.{decision_found}
use Rattle.soundness.proofs.Declared as by_declaration
use Rattle.soundness.proofs.Kept.{old_row, kept_edges}

module _ (T : Trail) (x : ℕ) (l : x < T.counts.entities) (s : is_signed (T.entity x).sort ≡ true) where
  -- it is no entity that is not signed
  other : (y : ℕ) → is_signed (T.entity y).sort ≡ false → x ≡ y → ⊥
  other y q e = true≢false (sym s ∙ ap (λ (z : ℕ). is_signed (T.entity z).sort) e ∙ q)

  pub declared_keeps : (d : Declaration) → SignedStays T (changed T (declared T.counts d)) x
  declared_keeps d = record {
    row = by_declaration.other_entity T d x l;
    versions = λ k h e. put_other T.version T.counts.versions _ k (λ q. omega arith);
    edges = λ k h i e. refl;
    no_version = λ k h i e. let q : k ≡ T.counts.versions = omega arith in
        omega (arith, sym (ap (owner_of (changed T (declared T.counts d))) q) ∙ e, by_declaration.new-owner T d);
    no_edge = λ k h i m o. omega arith;
  }

  pub signed_keeps : (g : Signature) → SignatureTaken T g → SignedStays T (changed T (signed T g)) x
  signed_keeps g p = record {
    row = put_other T.entity g.entity.0 _ x (other g.entity.0 p.unsigned);
    versions = λ k h e. refl;
    edges = λ k h i e. refl;
    no_version = λ k h i e. omega arith;
    no_edge = λ k h i m o. omega arith;
  }

  module _ (cap : Capacity) (f : RowFacts T) (e : Event) where
    -- the edge that was kept, into version w
    added : (j : ℕ) → T.counts.edges ≤ j → j < T.counts.edges + 1 → (w : ℕ) → (kept_edges T e w j).to.0 ≡ w
    added j h i w =
        let q : j ≡ T.counts.edges = omega arith in
        ap (λ (k : ℕ). (kept_edges T e w k).to.0) q ∙ ap (λ (r : EdgeRow). r.to.0) (put_same T.edge T.counts.edges (kept_edge T e w))

    pub happened_keeps : (d : Decision) → decision_of T e ≡ d → EventTaken cap T e d → SignedStays T (changed T (happened T e d)) x
    happened_keeps (Repeat k) q p =
        let z = decision_found T e k q in
        record {
          row = refl;
          versions = λ j h i. refl;
          edges = put_each T.edge k.0 _ (λ j r. j < T.counts.edges → (T.edge j).to.0 < T.counts.versions → owner_of T (T.edge j).to.0 ≡ x → r ≡ T.edge j)
              (λ h i o. absurd (other e.target.0 p.unsigned (sym o ∙ z.1.1))) (λ j n h i o. refl);
          no_version = λ j h i o. omega arith;
          no_edge = λ j h i m o. omega arith;
        }
    happened_keeps Widen q p =
        let o = (f.entity e.target.0 p.target_in).latest_owner in
        record {
          row = refl;
          versions = put_each T.version (latest_of T e.target.0) _ (λ j r. j < T.counts.versions → owner_of T j ≡ x → r ≡ T.version j)
              (λ h i. absurd (other e.target.0 p.unsigned (sym i ∙ o))) (λ j n h i. refl);
          edges = λ j h i z. old_row T e _ j h;
          no_version = λ j h i z. omega arith;
          no_edge = λ j h i m z. other e.target.0 p.unsigned (sym z ∙ ap (owner_of T) (added j h i _) ∙ o);
        }
    happened_keeps Renew q p = record {
      row = put_other T.entity e.target.0 _ x (other e.target.0 p.unsigned);
      versions = λ j h i. put_other T.version T.counts.versions _ j (λ z. omega arith);
      edges = λ j h i z. old_row T e _ j h;
      no_version = λ j h i z.
          let k : j ≡ T.counts.versions = omega arith in
          let r = ap (λ (v : VersionRow). v.entity.0) (put_same T.version T.counts.versions _) in
          other e.target.0 p.unsigned (sym z ∙ ap (owner_of (changed T (happened T e Renew))) k ∙ r);
      no_edge = λ j h i m z. omega (arith, added j h i T.counts.versions);
    }
