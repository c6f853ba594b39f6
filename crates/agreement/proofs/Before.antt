-- A trail on the way to another, and one record of that way.
use Prim.Native.Nat.{ℕ, ◌+◌, ◌≤◌, ◌<◌}
use native.Mathlib.Omega.{arith}
use mathlib.Core.Path.{◌≡◌, refl, sym, ◌∙◌, ap}
use Rattle.rows.specs.declared.EntityRow.{EntityRow}
use Rattle.record.specs.declared.Declaration.{Declaration}
use Rattle.record.specs.declared.Event.{Event}
use Rattle.record.specs.declared.Signature.{Signature}
use Rattle.rules.specs.declared.Decision.{Decision}
use Rattle.rules.specs.declared.Decision.TheVariants.{Repeat, Widen, Renew}
use Rattle.rules.specs.Trail.{Trail}
use Rattle.rules.specs.Sound.{is_subject}
use Rattle.rules.specs.Record.{declared, happened, signed}
use Rattle.rules.specs.PlainList.{changed}
use Rattle.soundness.specs.Taken.{SignatureTaken}
use Rattle.soundness.proofs.Put.{put_other}
use Rattle.agreement.proofs.Passing.{KeptStep, happened-step}
use Rattle.soundness.proofs.Signed.{signed_extends}
use Rattle.soundness.proofs.Sorts.{subject_stays}

-- T is on the way to F: what is to come adds no fewer versions than entities
pub record Before (T F : Trail) : Type 0 where
  pub entities : T.counts.entities ≤ F.counts.entities
  pub versions : T.counts.versions + F.counts.entities ≤ F.counts.versions + T.counts.entities
  pub edges : T.counts.edges ≤ F.counts.edges
  pub subjects : (x : ℕ) → x < T.counts.entities → is_subject (T.entity x).sort ≡ is_subject (F.entity x).sort

pub before_declared : (T F : Trail) (d : Declaration) → Before (changed T (declared T.counts d)) F → Before T F
before_declared T F d b = record {
  entities = omega (arith, b.entities);
  versions = omega (arith, b.versions);
  edges = b.edges;
  subjects = λ x l. ap (λ (r : EntityRow). is_subject r.sort) (sym (put_other T.entity _ _ x (λ q. omega arith))) ∙ b.subjects x (omega arith);
}

pub before_kept : (T T' F : Trail) (e : Event) (n : ℕ) → KeptStep T T' e n → Before T' F → Before T F
before_kept T T' F e n s b = record {
  entities = omega (arith, s.entities, b.entities);
  versions = omega (arith, s.entities, s.versions, b.versions);
  edges = omega (arith, s.edges, b.edges);
  subjects = λ x l. ap is_subject (sym (s.sorts x)) ∙ b.subjects x (omega (arith, s.entities));
}

pub before_event : (T F : Trail) (e : Event) (d : Decision) → Before (changed T (happened T e d)) F → Before T F
before_event T F e (Repeat k) b = record { entities = b.entities; versions = b.versions; edges = b.edges; subjects = b.subjects }
before_event T F e Widen b = before_kept T _ F e _ (happened-step T e Widen refl) b
before_event T F e Renew b = before_kept T _ F e _ (happened-step T e Renew refl) b

pub before_signed : (T F : Trail) (g : Signature) → SignatureTaken T g → Before (changed T (signed T g)) F → Before T F
before_signed T F g p b = record {
  entities = b.entities;
  versions = b.versions;
  edges = b.edges;
  subjects = λ x l. sym (subject_stays _ _ ((signed_extends T g p).sort_stays x l)) ∙ b.subjects x l;
}
