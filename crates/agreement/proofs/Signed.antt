-- Document 02, 2.4, of a plain list whose records are taken in: the last time is that of the last event, an entity is signed exactly if its
-- signature is among the records, and after it no event into it and no signature of it is taken in.
use Rattle.std.specs.Prelude.{Ok}
use Prim.Native.Nat.{ℕ, ◌<◌}
use native.Mathlib.Omega.{arith}
use native.Mathlib.Decide.{ℕ_discrete}
use mathlib.Core.Path.{◌≡◌, refl, sym, ◌∙◌, ap, subst}
use mathlib.Core.Logic.{◌⊎◌, inl, inr, ◌↔◌}
use mathlib.Core.List.Memᴰ
use mathlib.Core.List.{List, [], ◌∷◌, ◌++◌, Memᴰ}
use Rattle.rows.specs.declared.EntityRow.{EntityRow}
use Rattle.record.specs.declared.Signature.{Signature}
use Rattle.record.specs.declared.Record.{Record}
use Rattle.record.specs.declared.Record.TheVariants as records
use Rattle.rules.specs.Trail.{Trail}
use Rattle.rules.specs.Sound.{is_signed}
use Rattle.rules.specs.Record.{refusal_of}
use Rattle.rules.specs.History.{accepted}
use Rattle.rules.specs.PlainList.{worked, items_of}
use Rattle.rules.specs.StandsFor.{last_time}
use Rattle.rules.specs.KeptLog.{signature_record}
use Rattle.closure.specs.Same.{SameRows}
use Rattle.soundness.specs.Taken.{SortFits}
use Rattle.agreement.specs.Taken.{Taken, begun, next}
use Rattle.agreement.specs.Signed.{SignedAt, Enters, NoMore}
use Rattle.agreement.proofs.Plain.{taken_fine, last_of-accepted}
use Rattle.agreement.proofs.SignedStep.{signed_before, signed-after, signed_now, not_entered}

pub taken_last : {rs : List Record} → Taken rs → (worked rs).counts.last ≡ last_time (accepted (items_of rs))
taken_last {rs} t = (taken_fine t).last ∙ last_of-accepted (items_of rs)

-- the entity that a signature is of
abbrev signed_of : Record → ℕ
signed_of (records.Declaration d) = 0
signed_of (records.Event e) = 0
signed_of (records.Signature g) = g.entity.0

member_signed : {rs : List Record} → Taken rs → (x : ℕ) → Memᴰ (signature_record x) rs → SignedAt (worked rs) x
member_signed begun x m = absurd (Memᴰ.not-nil m)
member_signed (next {rs = rs} t cap w r f h) x m = go (member_signed t x) (Memᴰ.cases_cons m)
  where
    go : (Memᴰ (signature_record x) rs → SignedAt (worked rs) x) → (signature_record x ≡ r) ⊎ Memᴰ (signature_record x) rs → SignedAt (worked (r ∷ rs)) x
    go ih (inl e) =
        subst (λ (z : Record). SignedAt (worked (z ∷ rs)) x) e (signed_now cap rs x (ap (refusal_of cap (worked rs)) e ∙ h))
    go ih (inr i) = signed-after cap rs x r h (ih i)

pub signed_member : {rs : List Record} → Taken rs → (x : ℕ) → SignedAt (worked rs) x → Memᴰ (signature_record x) rs
signed_member begun x z = absurd (omega (arith, z.0))
signed_member (next {rs = rs} t cap w r f h) x z = go (signed_member t x) r f h z
  where
    other : (SignedAt (worked rs) x → Memᴰ (signature_record x) rs) → (r : Record) → SortFits r → refusal_of cap (worked rs) r ≡ Ok tt → (signature_record x ≡ r → ⊥)
        → SignedAt (worked (r ∷ rs)) x → Memᴰ (signature_record x) (r ∷ rs)
    other ih r f h n z = Memᴰ.tail (ih (signed_before cap rs x r f h n z))

    at : (SignedAt (worked rs) x → Memᴰ (signature_record x) rs) → (g : Signature) → refusal_of cap (worked rs) (records.Signature g) ≡ Ok tt
        → SignedAt (worked (records.Signature g ∷ rs)) x → Dec (x ≡ g.entity.0) → Memᴰ (signature_record x) (records.Signature g ∷ rs)
    at ih g h z (yes e) = Memᴰ.head (ap signature_record e)
    at ih g h z (no e) = other ih (records.Signature g) tt h (λ p. e (ap signed_of p)) z

    go : (SignedAt (worked rs) x → Memᴰ (signature_record x) rs) → (r : Record) → SortFits r → refusal_of cap (worked rs) r ≡ Ok tt → SignedAt (worked (r ∷ rs)) x
        → Memᴰ (signature_record x) (r ∷ rs)
    go ih (records.Declaration d) f h z = other ih (records.Declaration d) f h (λ e. let k : ◌≡◌ {A = ℕ} 0 1 = cc in omega arith) z
    go ih (records.Event e) f h z = other ih (records.Event e) f h (λ p. let k : ◌≡◌ {A = ℕ} 0 1 = cc in omega arith) z
    go ih (records.Signature g) f h z = at ih g h z (ℕ_discrete x g.entity.0)

-- in the tables that the plain list gives
pub signed-held : {rs : List Record} → Taken rs → {T : Trail} → SameRows (worked rs) T → (x : ℕ) → SignedAt T x ↔ Memᴰ (signature_record x) rs
signed-held {rs} t s x = (
  (λ z.
      let l : x < (worked rs).counts.entities = omega (arith, z.0, s.entities) in
      signed_member t x (l, ap (λ (r : EntityRow). is_signed r.sort) (s.entity_rows x l) ∙ z.1)),
  λ m. let z = member_signed t x m in (omega (arith, z.0, s.entities), ap (λ (r : EntityRow). is_signed r.sort) (sym (s.entity_rows x z.0)) ∙ z.1),
)

in_front : (ys : List Record) (r : Record) (zs : List Record) → Memᴰ r (ys ++ (r ∷ zs))
in_front [] r zs = Memᴰ.head refl
in_front (y ∷ ys) r zs = Memᴰ.tail (in_front ys r zs)

pub no_more : {rs : List Record} → Taken rs → NoMore rs
no_more begun later earlier x q r m e = nothing later q m
  where
    nothing : (later : List Record) → [] ≡ later ++ (signature_record x ∷ earlier) → Memᴰ r later → ⊥
    nothing [] p m = Memᴰ.not-nil m
    nothing (y ∷ ys) p m = let k : ◌≡◌ {A = ℕ} 0 1 = cc in omega arith
no_more (next {rs = rs} t cap w y f h) [] earlier x q r m e = Memᴰ.not-nil m
no_more (next {rs = rs} t cap w y f h) (z ∷ later) earlier x q r m e = go (λ p i. no_more t later earlier x p r i e) (Memᴰ.cases_cons m)
  where
    tail_is : rs ≡ later ++ (signature_record x ∷ earlier)
    tail_is = cc

    head_is : y ≡ z
    head_is = cc

    go : (rs ≡ later ++ (signature_record x ∷ earlier) → Memᴰ r later → ⊥) → (r ≡ z) ⊎ Memᴰ r later → ⊥
    go ih (inl p) =
        not_entered cap rs x y h (member_signed t x (subst (Memᴰ (signature_record x)) (sym tail_is) (in_front later (signature_record x) earlier)))
        (subst (Enters x) (p ∙ sym head_is) e)
    go ih (inr i) = ih tail_is i
