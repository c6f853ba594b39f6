-- Each by the field of the claim that it contradicts.
use Prim.Native.Nat.{ℕ, ◌≤◌, ◌<◌}
use native.Mathlib.Omega.{arith}
use mathlib.Core.Path.{◌≡◌, refl, sym, ap}
use mathlib.Core.Logic.{inl, inr}
use mathlib.Core.Bool.{true≢false}
use Rattle.rows.specs.Rows.{entity_at, version_at, edge_at}
use Rattle.rules.specs.Trail.{counts, trail_of}
use Rattle.rules.specs.Sound.{is_subject, is_object, is_signed}
use Rattle.rules.specs.Batch.{Batched}
use Rattle.rules.specs.SignedCases.{signed_tables}
use Rattle.soundness.specs.Frame.{SignedStays, SameOrSigned, Framed}
use Rattle.soundness.specs.Refuted.{Refuted}

module _ {b : Batched} (f : Framed (counts 4 5 4 7 7) signed_tables b) where
  report : SignedStays (trail_of (counts 4 5 4 7 7) signed_tables) (trail_of b.counts b.tables) 2
  unfolding is_signed entity_at
  report = f.rows.signed_stays 2 (omega arith) refl

  sort-of : (x : ℕ) → x < 4 → SameOrSigned (entity_at signed_tables.entities x).sort (entity_at b.tables.entities x).sort
  sort-of x l = f.rows.sort_same_or_signed x l

  version_is : version_at b.tables.versions 2 ≡ version_at signed_tables.versions 2
  unfolding version_at
  version_is = report.versions 2 (omega arith) refl

  edge_is : edge_at b.tables.edges 1 ≡ edge_at signed_tables.edges 1
  unfolding edge_at version_at
  edge_is = report.edges 1 (omega arith) (omega arith) refl

  no_edge_more : 5 ≤ b.counts.edges → (edge_at b.tables.edges 4).to.0 ≡ 2 → ⊥
  unfolding version_at
  no_edge_more l e = report.no_edge 4 (omega arith) (omega arith) (omega (arith, e)) (ap (λ (k : ℕ). (version_at signed_tables.versions k).entity.0) e)

pub refuted : Refuted
unfolding entity_at version_at edge_at is_object is_subject
refuted = record {
  row_changed = λ b w f. w (report f).row;
  version_changed = λ b w f. w (version_is f);
  edge_changed = λ b w f. w (edge_is f);
  version_added = λ b w f. (report f).no_version 5 (omega arith) (omega (arith, w.0)) w.1;
  edge_added = λ b w f. no_edge_more f w.0 w.1;
  study_a_subject = λ b w f. subject (sort-of f 0 (omega arith)) w;
  stager_signed = λ b w f. signed (sort-of f 1 (omega arith)) w;
}
  where
    subject : {s : ℕ} → SameOrSigned 0 s → s ≡ 1 → ⊥
    subject (inl e) w = omega (arith, e, w)
    subject (inr (o, e)) w = omega (arith, e, w)

    signed : {s : ℕ} → SameOrSigned 1 s → s ≡ 2 → ⊥
    signed (inl e) w = omega (arith, e, w)
    signed (inr (o, e)) w = true≢false (sym o)
