-- Document 02, 2.4: what a record that is taken in does to the signed, and that it goes into none of them.
use Rattle.std.specs.Prelude.{Ok}
use Prim.Native.Nat.{ℕ}
use native.Mathlib.Omega.{arith}
use native.Mathlib.Decide.{ℕ_discrete}
use mathlib.Core.Path.{◌≡◌, refl, sym, ◌∙◌, ap}
use mathlib.Core.Bool.{true, true≢false}
use mathlib.Core.List.{List, ◌∷◌}
use Rattle.rows.specs.declared.EntityRow.{EntityRow}
use Rattle.rows.specs.Rows.{entity_no, entity_row}
use Rattle.record.specs.declared.Event.{Event}
use Rattle.record.specs.declared.Record.{Record}
use Rattle.record.specs.declared.Record.TheVariants as records
use Rattle.rules.specs.declared.Decision.{Decision}
use Rattle.rules.specs.declared.Decision.TheVariants.{Repeat, Widen, Renew}
use Rattle.rules.specs.Trail.{Capacity, Trail, latest_of}
use Rattle.rules.specs.Sound.{is_signed, signed_sort}
use Rattle.rules.specs.Decide.{decision_of}
use Rattle.rules.specs.Record.{refusal_of, change_of, happened}
use Rattle.rules.specs.PlainList.{put, changed, worked}
use Rattle.rules.specs.KeptLog.{signature_record}
use Rattle.soundness.specs.Taken.{SortFits}
use Rattle.soundness.proofs.Put.{put_same, put_other, put_keeps}
use Rattle.soundness.proofs.Sorts.{sort-signed, low_unsigned}
use Rattle.soundness.proofs.Taken.{event-taken, signature_taken}
use Rattle.agreement.specs.Signed.{SignedAt, Enters}

-- an event leaves the sorts and the number of entities
pub event-sort : (T : Trail) (e : Event) (d : Decision) (x : ℕ) → ((changed T (happened T e d)).entity x).sort ≡ (T.entity x).sort
event-sort T e (Repeat k) x = refl
event-sort T e Widen x = refl
event-sort T e Renew x = put_keeps T.entity e.target.0 (entity_row (T.entity e.target.0).sort T.counts.versions) (λ (r : EntityRow). r.sort) refl x

event_entities : (T : Trail) (e : Event) (d : Decision) → (changed T (happened T e d)).counts.entities ≡ T.counts.entities
event_entities T e (Repeat k) = refl
event_entities T e Widen = refl
event_entities T e Renew = refl

module _ (cap : Capacity) (rs : List Record) (x : ℕ) where
  -- a record that is no signature of x leaves x as it is
  pub signed_before : (r : Record) → SortFits r → refusal_of cap (worked rs) r ≡ Ok tt → (signature_record x ≡ r → ⊥) → SignedAt (worked (r ∷ rs)) x → SignedAt (worked rs) x
  unfolding refusal_of change_of
  signed_before (records.Declaration d) f h n (l, q) = go (ℕ_discrete x (worked rs).counts.entities)
    where
      go : Dec (x ≡ (worked rs).counts.entities) → SignedAt (worked rs) x
      go (yes e) =
          let z = ap (λ (y : ℕ). is_signed (put (worked rs).entity (worked rs).counts.entities (entity_row d.sort (worked rs).counts.versions) y).sort) e
          ∙ ap (λ (r : EntityRow). is_signed r.sort) (put_same (worked rs).entity _ _) in
          absurd (true≢false (sym q ∙ z ∙ low_unsigned d.sort f))
      go (no e) = (omega arith, ap (λ (r : EntityRow). is_signed r.sort) (sym (put_other (worked rs).entity _ _ x e)) ∙ q)
  signed_before (records.Event e) f h n (l, q) =
      let d = decision_of (worked rs) e in
      (omega (arith, event_entities (worked rs) e d), ap is_signed (sym (event-sort (worked rs) e d x)) ∙ q)
  signed_before (records.Signature g) f h n (l, q) =
      (l, ap (λ (r : EntityRow). is_signed r.sort) (sym (put_other (worked rs).entity g.entity.0 _ x (λ e. n (ap signature_record e)))) ∙ q)

  pub signed-after : (r : Record) → refusal_of cap (worked rs) r ≡ Ok tt → SignedAt (worked rs) x → SignedAt (worked (r ∷ rs)) x
  unfolding refusal_of change_of
  signed-after (records.Declaration d) h (l, q) =
      (omega arith, ap (λ (r : EntityRow). is_signed r.sort) (put_other (worked rs).entity _ _ x (λ e. omega arith)) ∙ q)
  signed-after (records.Event e) h (l, q) =
      let d = decision_of (worked rs) e in
      (omega (arith, event_entities (worked rs) e d), ap is_signed (event-sort (worked rs) e d x) ∙ q)
  signed-after (records.Signature g) h (l, q) = (l, go (ℕ_discrete x g.entity.0))
    where
      row : EntityRow
      row = entity_row signed_sort (latest_of (worked rs) g.entity.0)

      go : Dec (x ≡ g.entity.0) → is_signed (put (worked rs).entity g.entity.0 row x).sort ≡ true
      go (yes e) =
          ap (λ (y : ℕ). is_signed (put (worked rs).entity g.entity.0 row y).sort) e
          ∙ ap (λ (r : EntityRow). is_signed r.sort) (put_same (worked rs).entity g.entity.0 row) ∙ sort-signed signed_sort refl
      go (no e) = ap (λ (r : EntityRow). is_signed r.sort) (put_other (worked rs).entity g.entity.0 row x e) ∙ q

  -- its signature signs it
  pub signed_now : refusal_of cap (worked rs) (signature_record x) ≡ Ok tt → SignedAt (worked (signature_record x ∷ rs)) x
  unfolding refusal_of change_of
  signed_now h = (
    (signature_taken (worked rs) (record { entity = entity_no x }) h).entity_in,
    ap (λ (r : EntityRow). is_signed r.sort) (put_same (worked rs).entity x _) ∙ sort-signed signed_sort refl,
  )

  -- and then nothing enters it
  pub not_entered : (r : Record) → refusal_of cap (worked rs) r ≡ Ok tt → SignedAt (worked rs) x → Enters x r → ⊥
  unfolding refusal_of
  not_entered (records.Declaration d) h z e = e
  not_entered (records.Event g) h (l, q) e =
      true≢false (sym q ∙ ap (λ (y : ℕ). is_signed ((worked rs).entity y).sort) (sym e) ∙ (event-taken cap (worked rs) g h).unsigned)
  not_entered (records.Signature g) h (l, q) e =
      true≢false (sym q ∙ ap (λ (y : ℕ). is_signed ((worked rs).entity y).sort) (sym e) ∙ (signature_taken (worked rs) g h).unsigned)
