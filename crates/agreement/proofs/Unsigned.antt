-- A plain list without its signatures: its records are taken in, since what refuses a record reads of a sort whether it is a subject's, and
-- whether the object is signed, which none is then.
use Rattle.std.specs.Prelude.{Ok}
use Prim.Native.Nat.{ℕ, ◌<◌}
use native.Mathlib.Omega.{arith}
use mathlib.Core.Path.{◌≡◌, refl, sym, ◌∙◌, ap, subst}
use mathlib.Core.Logic.{◌⊎◌, inl, inr}
use mathlib.Core.Bool.{Bool, true, false}
use mathlib.Core.List.Memᴰ
use mathlib.Core.List.{List, [], ◌∷◌, Memᴰ}
use Rattle.refusals.specs.Refusals.{first_of}
use Rattle.rows.specs.declared.Counts.{Counts}
use Rattle.rows.specs.declared.EntityRow.{EntityRow}
use Rattle.rows.specs.Rows.{entity_row}
use Rattle.record.specs.declared.Declaration.{Declaration}
use Rattle.record.specs.declared.Event.{Event}
use Rattle.record.specs.declared.Record.{Record}
use Rattle.record.specs.declared.Record.TheVariants as records
use Rattle.record.specs.Layout.{kind_no}
use Rattle.rules.specs.declared.Decision.{Decision}
use Rattle.rules.specs.Trail.{Capacity, Trail}
use Rattle.rules.specs.Sound.{is_subject, is_signed, signed_sort}
use Rattle.rules.specs.Decide.{decision_of}
use Rattle.rules.specs.Record.{declaration_refusals, refusal_of, change_of}
use Rattle.rules.specs.PlainList.{put, worked, unsigned}
use Rattle.rules.specs.KeptLog.{signature_record}
use Rattle.soundness.specs.Taken.{RoomLeft, EventTaken, SortFits}
use Rattle.soundness.proofs.Put.{put_keeps}
use Rattle.soundness.proofs.Sorts.{source_same, target_same, signed_no_subject}
use Rattle.soundness.proofs.Taken.{event-taken, signature_taken}
use Rattle.agreement.specs.Taken.{Taken, begun, next}
use Rattle.agreement.specs.Signed.{Untouched}
use Rattle.agreement.proofs.Passing.{event-passes}
use Rattle.agreement.proofs.SignedStep.{event-sort}
use Rattle.agreement.proofs.Signed.{signed_member}
use Rattle.agreement.proofs.Untouched.{put_alike, decision_alike, alike, same-items, same_but_sorts}

-- the same entities are subjects
abbrev Subjects : Trail → Trail → Type 0
Subjects T U = (x : ℕ) → is_subject (T.entity x).sort ≡ is_subject (U.entity x).sort

module _ (cap : Capacity) (rs : List Record) where
  subjects_next : Subjects (worked (unsigned rs)) (worked rs) → (r : Record) → refusal_of cap (worked rs) r ≡ Ok tt
      → Subjects (worked (unsigned (r ∷ rs))) (worked (r ∷ rs))
  unfolding refusal_of change_of
  subjects_next ih (records.Declaration d) h x =
      put_alike (λ (r : EntityRow). is_subject r.sort) _ _ _ _ _ refl ih x
      ∙ ap (λ (c : Counts). is_subject (put (worked rs).entity c.entities (entity_row d.sort c.versions) x).sort) (alike rs).counts
  subjects_next ih (records.Event e) h x =
      ap is_subject (event-sort (worked (unsigned rs)) e (decision_of (worked (unsigned rs)) e) x) ∙ ih x
      ∙ sym (ap is_subject (event-sort (worked rs) e (decision_of (worked rs) e) x))
  subjects_next ih (records.Signature g) h x =
      let q = signed_no_subject signed_sort refl ∙ sym (signature_taken (worked rs) g h).object in
      ih x ∙ sym (put_keeps (worked rs).entity g.entity.0 _ (λ (r : EntityRow). is_subject r.sort) q x)

subjects : {rs : List Record} → Taken rs → Subjects (worked (unsigned rs)) (worked rs)
subjects begun x = refl
subjects (next {rs = rs} t cap w r f h) x = subjects_next cap rs (subjects t) r h x

-- no signature is left, so no entity is signed
no_signature : (rs : List Record) (x : ℕ) → Memᴰ (signature_record x) (unsigned rs) → ⊥
no_signature [] x m = Memᴰ.not-nil m
no_signature (records.Declaration d ∷ rs) x m = go (no_signature rs x) (Memᴰ.cases_cons m)
  where
    go : (Memᴰ (signature_record x) (unsigned rs) → ⊥) → (signature_record x ≡ records.Declaration d) ⊎ Memᴰ (signature_record x) (unsigned rs) → ⊥
    go ih (inl e) = let k : ◌≡◌ {A = ℕ} 0 1 = cc in omega arith
    go ih (inr i) = ih i
no_signature (records.Event e ∷ rs) x m = go (no_signature rs x) (Memᴰ.cases_cons m)
  where
    go : (Memᴰ (signature_record x) (unsigned rs) → ⊥) → (signature_record x ≡ records.Event e) ⊎ Memᴰ (signature_record x) (unsigned rs) → ⊥
    go ih (inl p) = let k : ◌≡◌ {A = ℕ} 0 1 = cc in omega arith
    go ih (inr i) = ih i
no_signature (records.Signature g ∷ rs) x m = no_signature rs x m

none-signed : (rs : List Record) → Taken (unsigned rs) → (x : ℕ) → x < (worked (unsigned rs)).counts.entities
    → is_signed ((worked (unsigned rs)).entity x).sort ≡ false
none-signed rs u x l = go (is_signed ((worked (unsigned rs)).entity x).sort) refl
  where
    go : (b : Bool) → is_signed ((worked (unsigned rs)).entity x).sort ≡ b → b ≡ false
    go true q = absurd (no_signature rs x (signed_member u x (l, q)))
    go false q = refl

-- an event that is taken in is taken in without the signatures before it
module _ (cap : Capacity) {rs : List Record} (t : Taken rs) (u : Taken (unsigned rs)) (e : Event) where
  abbrev T : Trail
  T = worked (unsigned rs)

  abbrev U : Trail
  U = worked rs

  still_taken : EventTaken cap U e (decision_of U e) → EventTaken cap T e (decision_of T e)
  still_taken p =
      let c : T.counts ≡ U.counts = (alike rs).counts in
      let n : T.counts.entities ≡ U.counts.entities = ap (λ (k : Counts). k.entities) c in
      let l : e.target.0 < T.counts.entities = omega (arith, p.target_in) in
      record {
        source_in = omega (arith, p.source_in);
        target_in = l;
        apart = p.apart;
        source_fits_lem = source_same (kind_no e.kind) _ _ (subjects t e.source.0) ∙ p.source_fits_lem;
        target_fits_lem = target_same (kind_no e.kind) _ _ (subjects t e.target.0) ∙ p.target_fits_lem;
        unsigned = none-signed rs u e.target.0 l;
        positive = p.positive;
        not_earlier = let q = ap (λ (k : Counts). k.last) c in omega (arith, p.not_earlier);
        accepted_left = let q = ap (λ (k : Counts). k.accepted) c in omega (arith, p.accepted_left);
        room_left =
            subst (λ (d : Decision). RoomLeft cap T.counts d) (sym (decision_alike (alike rs) e))
            (subst (λ (k : Counts). RoomLeft cap k (decision_of U e)) (sym c) p.room_left);
      }

  event_still : refusal_of cap U (records.Event e) ≡ Ok tt → refusal_of cap T (records.Event e) ≡ Ok tt
  unfolding refusal_of
  event_still h = event-passes cap T e (decision_of T e) (still_taken (event-taken cap U e h))

declaration_still : (cap : Capacity) (rs : List Record) (d : Declaration) → refusal_of cap (worked rs) (records.Declaration d) ≡ Ok tt
    → refusal_of cap (worked (unsigned rs)) (records.Declaration d) ≡ Ok tt
unfolding refusal_of
declaration_still cap rs d h = ap (λ (c : Counts). first_of (declaration_refusals cap c d)) (alike rs).counts ∙ h

unsigned-taken : {rs : List Record} → Taken rs → Taken (unsigned rs)
unsigned-taken begun = begun
unsigned-taken (next {rs = rs} t cap w r f h) = go (unsigned-taken t) r f h
  where
    go : Taken (unsigned rs) → (r : Record) → SortFits r → refusal_of cap (worked rs) r ≡ Ok tt → Taken (unsigned (r ∷ rs))
    go u (records.Declaration d) f h = next u cap w (records.Declaration d) f (declaration_still cap rs d h)
    go u (records.Event e) f h = next u cap w (records.Event e) f (event_still cap t u e h)
    go u (records.Signature g) f h = u

pub untouched : {rs : List Record} → Taken rs → Untouched rs
untouched {rs} t = record { taken = unsigned-taken t; trail = same_but_sorts rs; items = same-items rs }
