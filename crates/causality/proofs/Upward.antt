-- Each version leads to the latest of its entity, and a first version to all the others.
use Prim.Native.Nat.{ℕ, ◌<◌}
use native.Mathlib.Omega.{arith}
use mathlib.Core.Path.{◌≡◌, refl, sym, ◌∙◌, ap, subst}
use mathlib.Core.Logic.{inl, inr}
use mathlib.Core.List.{List}
use Rattle.rules.specs.Trail.{Trail, latest_of, owner_of}
use Rattle.rules.specs.History.{Item}
use Rattle.rules.specs.Forward.{ForwardMarks, start}
use Rattle.causality.specs.Working.{nv, start_time, Leads, Grown}
use Rattle.causality.proofs.Declared.{OldVersion}
use Rattle.causality.proofs.Entered.{NewVersion}
use Rattle.causality.proofs.Kept.{new_shape, target_now}
use Rattle.causality.proofs.Growth.{inv, grown_ind, OnDeclared, OnKept}
use Rattle.causality.proofs.ForwardMarks.{fwd_trans, fwd_in, fwd_declared, kept_more, target_up, latest_up}

abbrev Up : Trail → List Item → Type 0
Up T hs = (a : ℕ) → a < nv T → ForwardMarks T a (latest_of T (owner_of T a))

up : {T : Trail} {hs : List Item} → Grown T hs → (a : ℕ) → a < nv T → ForwardMarks T a (latest_of T (owner_of T a))
up g = grown_ind Up (λ T _ v _ a h. absurd (omega arith)) decl (λ T hs e g f r ih. ih) keep g
  where
    decl : OnDeclared Up
    decl T T' hs g d ih a h = go (d.version_inv a h)
      where
        go : OldVersion T a → ForwardMarks T' a (latest_of T' (owner_of T' a))
        go (inl k) = rw (d.owner_old a k, d.row.latest_old _ ((inv g).owner_in a k)) (fwd_declared d (ih a k))
        go (inr q) = rw (q, d.row.owner_new, d.row.latest_new) (start refl)

    keep : OnKept Up
    keep T T' hs e w g k ih a h = go (k.now.version_inv a h)
      where
        go : NewVersion T w a → ForwardMarks T' a (latest_of T' (owner_of T' a))
        go (inl o) = rw (k.now.owner_old a o) (latest_up k _ (k.was.owner_in a o) (kept_more k (ih a o)))
        go (inr c) = start (ap (λ z. latest_of T' (owner_of T' z)) c.0 ∙ ap (latest_of T') k.now.owner-w ∙ k.now.row.latest_target ∙ sym c.0)

-- where some version of v is marked, its latest is
pub leads_up : {T : Trail} {hs : List Item} → Grown T hs → {s v : ℕ} → s < nv T → Leads T s v → ForwardMarks T s (latest_of T v)
leads_up {T} g {s} h l =
    fwd_trans l.marked (subst (λ z. ForwardMarks T l.version (latest_of T z)) l.owner (up g l.version (fwd_in (inv g) h l.marked)))

-- a version that starts at 0 leads to all the others of its entity
abbrev First : Trail → List Item → Type 0
First T hs = (s a : ℕ) → s < nv T → a < nv T → start_time T s ≡ 0 → owner_of T a ≡ owner_of T s → ForwardMarks T s a

pub first : {T : Trail} {hs : List Item} → Grown T hs → First T hs
first g = grown_ind First (λ T _ v _ s a h. absurd (omega arith)) decl (λ T hs e g f r ih. ih) keep g
  where
    decl : OnDeclared First
    decl T T' hs g d ih s a h j z q = go (d.version_inv s h) (d.version_inv a j)
      where
        go : OldVersion T s → OldVersion T a → ForwardMarks T' s a
        go (inl m) (inl n) = fwd_declared d (ih s a m n (sym (d.start_old s m) ∙ z) (sym (d.owner_old a n) ∙ q ∙ d.owner_old s m))
        go (inr m) (inr n) = start (n ∙ sym m)
        go (inl m) (inr n) = absurd (omega (arith, d.owner_old s m, (inv g).owner_in s m, ap (owner_of T') n, d.row.owner_new, q))
        go (inr m) (inl n) = absurd (omega (arith, d.owner_old a n, (inv g).owner_in a n, ap (owner_of T') m, d.row.owner_new, q))

    keep : OnKept First
    keep T T' hs e w g k ih s a h j z q = go (k.now.version_inv s h) (k.now.version_inv a j)
      where
        go : NewVersion T w s → NewVersion T w a → ForwardMarks T' s a
        go (inl m) (inl n) = kept_more k (ih s a m n (sym (k.now.start_old s m) ∙ z) (sym (k.now.owner_old a n) ∙ q ∙ k.now.owner_old s m))
        go (inr c) n = absurd (omega (arith, k.fit.positive, (new_shape k c.1).start, ap (start_time T') c.0, z))
        go (inl m) (inr c) =
            let p : owner_of T (latest_of T e.target.0) ≡ owner_of T s = k.was.latest_owner _ k.fit.target_in ∙ sym k.now.owner-w ∙ ap (owner_of T') (sym c.0) ∙ q ∙ k.now.owner_old s m in
            rw c.0 (fwd_trans (kept_more k (ih s _ m (target_now k) (sym (k.now.start_old s m) ∙ z) p)) (target_up k))
