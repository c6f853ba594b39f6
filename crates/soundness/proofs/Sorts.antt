-- What a sort says: subject, object or signed object.
use Prim.Native.Nat.{ℕ, ◌≤◌}
use native.Mathlib.Omega.{arith}
use mathlib.Core.Path.{◌≡◌, refl, sym, ◌∙◌, ap}
use mathlib.Core.Logic.{inl, inr}
use mathlib.Core.Bool.{Bool, true, false, cond, ◌||◌, not}
use lib.Dec.{eqb}
use borrow.Author.Tests.{eqb-true, eqb-false, not-true, eq-eqb, ne_eqb}
use Rattle.refusals.proofs.Checks.{not_true_of}
use Rattle.record.specs.declared.Kind.TheVariants.{Write, Fork}
use Rattle.record.specs.Layout.{kind_no}
use Rattle.rules.specs.Sound.{is_subject, is_object, is_signed, signed_sort, source_fits, target_fits}
use Rattle.rules.specs.KeptLog.{declared_sort}
use Rattle.soundness.specs.Frame.{SameOrSigned}
use Rattle.soundness.specs.Parts.{source_sort, target_sort}

-- what a kind asks for depends on which entities are subjects
module _ (kind s s' : ℕ) (e : is_subject s' ≡ is_subject s) where
  pub source_same : source_fits kind s' ≡ source_fits kind s
  unfolding source_fits is_object
  source_same = rw e

  pub target_same : target_fits kind s' ≡ target_fits kind s
  unfolding target_fits is_object
  target_same = rw e

-- a signed entity is an object, of sort 2

pub signed-sort : (s : ℕ) → is_signed s ≡ true → s ≡ signed_sort
unfolding is_signed
signed-sort s h = eqb-true s signed_sort h

pub signed_no_subject : (s : ℕ) → s ≡ signed_sort → is_subject s ≡ false
unfolding is_subject
signed_no_subject s e = ne_eqb s 1 (λ q. omega arith)

pub sort-signed : (s : ℕ) → s ≡ signed_sort → is_signed s ≡ true
unfolding is_signed
sort-signed s e = eq-eqb s signed_sort e

pub low_unsigned : (s : ℕ) → s ≤ 1 → is_signed s ≡ false
unfolding is_signed
low_unsigned s l = ne_eqb s signed_sort (λ e. omega arith)

pub object_of : (s : ℕ) → is_subject s ≡ false → is_object s ≡ true
unfolding is_object
object_of s h = not_true_of _ h

pub object_no_subject : (s : ℕ) → is_object s ≡ true → is_subject s ≡ false
unfolding is_object
object_no_subject s h = not-true _ h

-- an entity that keeps its sort or is signed

module _ (s s' : ℕ) where
  pub subject_stays : SameOrSigned s s' → is_subject s' ≡ is_subject s
  unfolding is_object
  subject_stays (inl e) = ap is_subject e
  subject_stays (inr (o, e)) = signed_no_subject s' e ∙ sym (object_no_subject s o)

  pub sort_still_in : SameOrSigned s s' → s ≤ signed_sort → s' ≤ signed_sort
  sort_still_in (inl e) l = omega arith
  sort_still_in (inr (o, e)) l = omega arith

pub stays_trans : (s s' s'' : ℕ) → SameOrSigned s s' → SameOrSigned s' s'' → SameOrSigned s s''
stays_trans s s' s'' p (inl e) = go p
  where
    go : SameOrSigned s s' → SameOrSigned s s''
    go (inl d) = inl (e ∙ d)
    go (inr (o, d)) = inr (o, e ∙ d)
stays_trans s s' s'' p (inr (o, e)) = inr (object_of s (sym (subject_stays s s' p) ∙ object_no_subject s' o), e)

-- the sort that an entity is declared with

pub bit_low : (b : Bool) → cond b 1 0 ≤ 1
bit_low true = omega arith
bit_low false = omega arith

module _ (s : ℕ) where
  pub declared_low : declared_sort s ≤ 1
  unfolding declared_sort
  declared_low = bit_low (is_subject s)

  pub declared_subject : is_subject (declared_sort s) ≡ is_subject s
  unfolding declared_sort is_subject
  declared_subject = go (eqb s 1)
    where
      go : (b : Bool) → eqb (cond b 1 0) 1 ≡ b
      go true = refl
      go false = refl

  pub declared-unsigned : is_signed (declared_sort s) ≡ false
  declared-unsigned = low_unsigned (declared_sort s) declared_low

  -- a sort that is not 2 is declared as it is, and a signed one as an object
  pub declared_same : s ≤ signed_sort → is_signed s ≡ false → declared_sort s ≡ s
  unfolding declared_sort is_signed is_subject
  declared_same l h = go (eqb s 1) refl
    where
      go : (b : Bool) → eqb s 1 ≡ b → cond b 1 0 ≡ s
      go true q = sym (eqb-true s 1 q)
      go false q = omega (arith, eqb-false s 1 q, eqb-false s signed_sort h)

-- a kind asks for a subject or for an object, as b says
fits_by : (b t : Bool) → eqb (cond t 1 0) (cond b 1 0) ≡ cond b t (not t)
fits_by true true = refl
fits_by true false = refl
fits_by false true = refl
fits_by false false = refl

module _ (kind s m n : ℕ) (p : m ≡ declared_sort s) where
  pub source_by : n ≡ source_sort kind → eqb m n ≡ source_fits kind s
  unfolding source_fits is_object declared_sort
  source_by q = rw (p, q) (fits_by (eqb kind (kind_no Write) || eqb kind (kind_no Fork)) (is_subject s))

  pub target_by : n ≡ target_sort kind → eqb m n ≡ target_fits kind s
  unfolding target_fits is_object declared_sort
  target_by q = rw (p, q) (go (eqb kind (kind_no Write)) (is_subject s))
    where
      go : (b t : Bool) → eqb (cond t 1 0) (cond b 0 1) ≡ cond b (not t) t
      go true true = refl
      go true false = refl
      go false true = refl
      go false false = refl

-- the very number that a kind asks for in its target: such a target fits and is not signed
module _ (kind s : ℕ) (e : s ≡ target_sort kind) where
  pub asked_fits : target_fits kind s ≡ true
  unfolding target_fits is_object is_subject
  asked_fits = rw e (go (eqb kind (kind_no Write)))
    where
      go : (b : Bool) → cond b (not (eqb (cond b 0 1) 1)) (eqb (cond b 0 1) 1) ≡ true
      go true = refl
      go false = refl

  pub asked_unsigned : is_signed s ≡ false
  asked_unsigned = low_unsigned s (rw e (go (eqb kind (kind_no Write))))
    where
      go : (b : Bool) → cond b 0 1 ≤ 1
      go true = omega arith
      go false = omega arith
