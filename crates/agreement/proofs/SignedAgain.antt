-- The signatures of the kept log, taken in after its events: each signed object is signed again, and nothing else changes.
use Prim.Native.Nat.{ℕ, zero, suc, ◌≤◌, ◌<◌}
use native.Mathlib.Omega.{arith}
use native.Mathlib.Decide.{ℕ_discrete}
use mathlib.Core.Path.{◌≡◌, refl, sym, ◌∙◌, ap}
use mathlib.Core.Bool.{Bool, true, false, cond}
use mathlib.Core.List.{List, [], ◌∷◌, ◌++◌, append-nil, append_assoc, reverse, reverse-cons}
use Rattle.rows.specs.declared.Counts.{Counts}
use Rattle.rows.specs.declared.EntityRow.{EntityRow}
use Rattle.rows.specs.Rows.{entity_no}
use Rattle.record.specs.declared.Record.{Record}
use Rattle.rules.specs.Trail.{Capacity}
use Rattle.rules.specs.Sound.{is_subject, is_signed, signed_sort}
use Rattle.rules.specs.Record.{refusal_of, change_of}
use Rattle.rules.specs.PlainList.{worked, items_of}
use Rattle.rules.specs.KeptLog.{declared_sort, signature_record}
use Rattle.soundness.proofs.Put.{put_same, put_other}
use Rattle.soundness.proofs.Sorts.{signed-sort, signed_no_subject, declared_subject, declared-unsigned, declared_same}
use Rattle.kept_log.specs.LogRecords.{signed_records}
use Rattle.agreement.proofs.Passing.{signature_passes}
use Rattle.agreement.proofs.Relogged.{TakenBy}

-- the signatures of the signed ones of the first n entities, the last first, in front of other records
abbrev pub with_signatures : (ℕ → EntityRow) → ℕ → List Record → List Record
with_signatures N zero rs = rs
with_signatures N (suc x) rs = cond (is_signed (N x).sort) (signature_record x ∷ with_signatures N x rs) (with_signatures N x rs)

-- turned round, they stand last
pub with_signatures-reverse : (N : ℕ → EntityRow) (n : ℕ) (rs : List Record) → reverse (with_signatures N n rs) ≡ reverse rs ++ signed_records N n
unfolding signed_records
with_signatures-reverse N zero rs = sym (append-nil (reverse rs))
with_signatures-reverse N (suc x) rs = go (is_signed (N x).sort) (with_signatures-reverse N x rs)
  where
    go : (b : Bool) → reverse (with_signatures N x rs) ≡ reverse rs ++ signed_records N x
        → reverse (cond b (signature_record x ∷ with_signatures N x rs) (with_signatures N x rs)) ≡ reverse rs ++ (signed_records N x ++ cond b (signature_record x ∷ []) [])
    go true ih =
        reverse-cons (signature_record x) (with_signatures N x rs) ∙ ap (λ (z : List Record). z ++ (signature_record x ∷ [])) ih
        ∙ append_assoc (reverse rs) (signed_records N x) (signature_record x ∷ [])
    go false ih = ih ∙ ap (λ (z : List Record). reverse rs ++ z) (sym (append-nil (signed_records N x)))

-- what is left after the signatures of the first n, where rs left the sorts as declared
pub record SignedAgain (cap : Capacity) (N : ℕ → EntityRow) (n : ℕ) (rs rs' : List Record) : Type 0 where
  pub by : TakenBy cap rs'
  pub items : items_of rs' ≡ items_of rs
  pub counts : (worked rs').counts ≡ (worked rs).counts
  pub done : (x : ℕ) → x < n → ((worked rs').entity x).sort ≡ (N x).sort
  pub rest : (x : ℕ) → n ≤ x → ((worked rs').entity x).sort ≡ ((worked rs).entity x).sort

module _ (cap : Capacity) (N : ℕ → EntityRow) (rs : List Record) (by : TakenBy cap rs) (low : (x : ℕ) → x < (worked rs).counts.entities → (N x).sort ≤ signed_sort)
    (declared : (x : ℕ) → x < (worked rs).counts.entities → ((worked rs).entity x).sort ≡ declared_sort (N x).sort) where
  module _ (n : ℕ) (l : n < (worked rs).counts.entities) (rs' : List Record) (o : SignedAgain cap N n rs rs') where
    -- the next entity, before its signature
    sort_is : ((worked rs').entity n).sort ≡ declared_sort (N n).sort
    sort_is = o.rest n (omega arith) ∙ declared n l

    inside : n < (worked rs').counts.entities
    inside = omega (arith, ap (λ (c : Counts). c.entities) o.counts)

    signs : is_signed (N n).sort ≡ true → SignedAgain cap N (suc n) rs (signature_record n ∷ rs')
    unfolding refusal_of change_of
    signs q =
        let object : is_subject ((worked rs').entity n).sort ≡ false
        = ap is_subject sort_is ∙ declared_subject (N n).sort ∙ signed_no_subject (N n).sort (signed-sort (N n).sort q) in
        let unsigned : is_signed ((worked rs').entity n).sort ≡ false = ap is_signed sort_is ∙ declared-unsigned (N n).sort in
        record {
          by = ((tt, signature_passes (worked rs') (record { entity = entity_no n }) (record { entity_in = inside; object = object; unsigned = unsigned })), o.by);
          items = o.items;
          counts = o.counts;
          done = λ x h. at x h (ℕ_discrete x n);
          rest = λ x h. ap (λ (r : EntityRow). r.sort) (put_other (worked rs').entity n _ x (λ e. omega arith)) ∙ o.rest x (omega arith);
        }
      where
        at : (x : ℕ) → x < suc n → Dec (x ≡ n) → ((worked (signature_record n ∷ rs')).entity x).sort ≡ (N x).sort
        at x h (yes e) =
            ap (λ (y : ℕ). ((worked (signature_record n ∷ rs')).entity y).sort) e ∙ ap (λ (r : EntityRow). r.sort) (put_same (worked rs').entity n _)
            ∙ sym (signed-sort (N n).sort q) ∙ ap (λ (y : ℕ). (N y).sort) (sym e)
        at x h (no e) = ap (λ (r : EntityRow). r.sort) (put_other (worked rs').entity n _ x e) ∙ o.done x (omega arith)

    passes_over : is_signed (N n).sort ≡ false → SignedAgain cap N (suc n) rs rs'
    passes_over q = record {
      by = o.by;
      items = o.items;
      counts = o.counts;
      done = λ x h. at x h (ℕ_discrete x n);
      rest = λ x h. o.rest x (omega arith);
    }
      where
        at : (x : ℕ) → x < suc n → Dec (x ≡ n) → ((worked rs').entity x).sort ≡ (N x).sort
        at x h (yes e) =
            ap (λ (y : ℕ). ((worked rs').entity y).sort) e ∙ sort_is ∙ declared_same (N n).sort (low n l) q ∙ ap (λ (y : ℕ). (N y).sort) (sym e)
        at x h (no e) = o.done x (omega arith)

  pub sign_again : (n : ℕ) → n ≤ (worked rs).counts.entities → SignedAgain cap N n rs (with_signatures N n rs)
  sign_again zero l = record { by = by; items = refl; counts = refl; done = λ x h. absurd (omega arith); rest = λ x h. refl }
  sign_again (suc n) l = go (is_signed (N n).sort) refl (sign_again n (omega arith))
    where
      go : (b : Bool) → is_signed (N n).sort ≡ b → SignedAgain cap N n rs (with_signatures N n rs)
          → SignedAgain cap N (suc n) rs (cond b (signature_record n ∷ with_signatures N n rs) (with_signatures N n rs))
      go true q o = signs n l _ o q
      go false q o = passes_over n l _ o q
