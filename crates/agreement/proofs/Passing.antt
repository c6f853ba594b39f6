-- A record that meets no condition of a refusal is taken in; and what a kept event does to the counts and the sorts.
use Rattle.std.specs.Prelude.{Ok}
use Prim.Native.Nat.{ℕ, ◌+◌}
use native.Mathlib.Omega.{arith}
use mathlib.Core.Path.{◌≡◌, refl}
use borrow.Author.Tests.{lt-leb, le-leb, eq-eqb, ne_eqb}
use Rattle.refusals.specs.Refusals.{first_of}
use Rattle.refusals.proofs.Checks.{not_false_of, AllFalse, all_false_passed}
use Rattle.rows.specs.declared.Counts.{Counts}
use Rattle.record.specs.declared.Declaration.{Declaration}
use Rattle.record.specs.declared.Event.{Event}
use Rattle.record.specs.declared.Signature.{Signature}
use Rattle.rules.specs.declared.Decision.{Decision}
use Rattle.rules.specs.declared.Decision.TheVariants.{Repeat, Widen, Renew}
use Rattle.rules.specs.Trail.{Capacity, Trail}
use Rattle.rules.specs.Sound.{may_follow}
use Rattle.rules.specs.Record.{declaration_refusals, early_refusals, room_refusals, event_refusals, happened, signature_refusals}
use Rattle.rules.specs.PlainList.{changed}
use Rattle.rules.specs.History.{kept, item_of}
use Rattle.soundness.specs.Taken.{DeclarationTaken, RoomLeft, EventTaken, SignatureTaken}
use Rattle.soundness.proofs.Put.{put_keeps}

pub declaration-passes : (cap : Capacity) (c : Counts) (d : Declaration) → DeclarationTaken cap c d → first_of (declaration_refusals cap c d) ≡ Ok tt
unfolding declaration_refusals
declaration-passes cap c d p =
    all_false_passed _ (not_false_of _ (eq-eqb _ _ p.next), (lt-leb _ _ p.entities_left, (lt-leb _ _ p.versions_left, tt)))

room-passes : (cap : Capacity) (c : Counts) (d : Decision) → RoomLeft cap c d → AllFalse (room_refusals cap c d)
unfolding room_refusals
room-passes cap c (Repeat k) l = tt
room-passes cap c Widen l = (lt-leb _ _ l, tt)
room-passes cap c Renew l = (lt-leb _ _ l.0, (lt-leb _ _ l.1, tt))

pub event-passes : (cap : Capacity) (T : Trail) (e : Event) (d : Decision) → EventTaken cap T e d → first_of (event_refusals cap T e d) ≡ Ok tt
unfolding early_refusals event_refusals may_follow
event-passes cap T e d p =
    all_false_passed _ (
      lt-leb _ _ p.source_in,
      (
        lt-leb _ _ p.target_in,
        (
          ne_eqb _ _ p.apart,
          (
            not_false_of _ p.source_fits_lem,
            (
              not_false_of _ p.target_fits_lem,
              (
                p.unsigned,
                (
                  ne_eqb e.time 0 (λ q. omega (arith, p.positive)),
                  (not_false_of _ (le-leb _ _ p.not_earlier), (lt-leb _ _ p.accepted_left, room-passes cap T.counts d p.room_left)),
                ),
              ),
            ),
          ),
        ),
      ),
    )

pub signature_passes : (T : Trail) (g : Signature) → SignatureTaken T g → first_of (signature_refusals T.counts T.entity g) ≡ Ok tt
unfolding signature_refusals
signature_passes T g p = all_false_passed _ (lt-leb _ _ p.entity_in, (p.object, (p.unsigned, tt)))

-- T' is T with an event kept, and n versions more
pub record KeptStep (T T' : Trail) (e : Event) (n : ℕ) : Type 0 where
  pub entities : T'.counts.entities ≡ T.counts.entities
  pub versions : T'.counts.versions ≡ T.counts.versions + n
  pub edges : T'.counts.edges ≡ T.counts.edges + 1
  pub accepted : T'.counts.accepted ≡ T.counts.accepted + 1
  pub last : T'.counts.last ≡ e.time
  pub sorts : (x : ℕ) → (T'.entity x).sort ≡ (T.entity x).sort

-- how many versions a kept event makes
abbrev pub made : Decision → ℕ
made (Repeat k) = 0
made Widen = 0
made Renew = 1

pub happened-step : (T : Trail) (e : Event) (d : Decision) → item_of d e ≡ kept e → KeptStep T (changed T (happened T e d)) e (made d)
happened-step T e (Repeat k) h = absurd (let z : ◌≡◌ {A = ℕ} 0 1 = cc in omega arith)
happened-step T e Widen h = record {
  entities = refl;
  versions = omega arith;
  edges = refl;
  accepted = refl;
  last = refl;
  sorts = λ x. refl;
}
happened-step T e Renew h = record {
  entities = refl;
  versions = refl;
  edges = refl;
  accepted = refl;
  last = refl;
  sorts = λ x. put_keeps T.entity _ _ (λ r. r.sort) refl x;
}
