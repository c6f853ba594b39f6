-- Back along previous versions to the first that starts by a time, and how one record changes that.
use Prim.Native.Nat.{ℕ, zero, suc, ◌≤◌, ◌<◌}
use native.Mathlib.Omega.{arith}
use native.Mathlib.Decide.{dec_le}
use mathlib.Core.Path.{◌≡◌, refl, sym, ◌∙◌, ap}
use mathlib.Core.Logic.{◌⊎◌, inl, inr}
use mathlib.Core.List.{List}
use Rattle.record.specs.declared.Event.{Event}
use Rattle.rules.specs.Trail.{Trail, latest_of, owner_of}
use Rattle.rules.specs.History.{Item}
use Rattle.causality.specs.Working.{ne, nv, start_time, EdgeIn, PrevIn, Wide, New, Grown}
use Rattle.causality.proofs.Declared.{OldVersion, Declared}
use Rattle.causality.proofs.Entered.{NewVersion, NewPrev}
use Rattle.causality.proofs.Invariant.{Inv, prev_in}
use Rattle.causality.proofs.Kept.{Kept, kept_latest, NewLatest, new_shape, target_now}
use Rattle.causality.proofs.Growth.{inv, grown_ind, OnDeclared, OnKept}

pub data Walk (T : Trail) (t : ℕ) : ℕ → ℕ → Type 0 where
  stop : {w s : ℕ} → w ≡ s → start_time T w ≤ t → Walk T t w s
  back : {w p s : ℕ} → t < start_time T w → PrevIn T p w → Walk T t p s → Walk T t w s

-- s is the version of u that starts last by t
abbrev pub StartsAt : Trail → ℕ → ℕ → ℕ → Type 0
StartsAt T u t s = Walk T t (latest_of T u) s

walk_owner : {T : Trail} {l t w s : ℕ} → Inv T l → Walk T t w s → owner_of T s ≡ owner_of T w
walk_owner {T} i (stop q h) = ap (owner_of T) (sym q)
walk_owner i (back h p r) = walk_owner i r ∙ i.prev_owner p

walk_in : {T : Trail} {l t w s : ℕ} → Inv T l → w < nv T → Walk T t w s → s < nv T
walk_in i m (stop q h) = rw (← q) m
walk_in i m (back h p r) = walk_in i (prev_in i p) r

pub walk_start : {T : Trail} {t w s : ℕ} → Walk T t w s → start_time T s ≤ t
walk_start (stop q h) = rw (← q) h
walk_start (back h p r) = walk_start r

-- with no start after t it is the version itself
pub walk_last : {T : Trail} {t w s : ℕ} → start_time T w ≤ t → Walk T t w s → w ≡ s
walk_last h (stop q k) = q
walk_last h (back k p r) = absurd (omega arith)

pub starts_in : {T : Trail} {l u t s : ℕ} → Inv T l → u < ne T → StartsAt T u t s → s < nv T
starts_in {u = u} i h r = walk_in i (i.latest_in u h) r

pub starts_owner : {T : Trail} {l u t s : ℕ} → Inv T l → u < ne T → StartsAt T u t s → owner_of T s ≡ u
starts_owner {u = u} i h r = walk_owner i r ∙ i.latest_owner u h

-- a declaration changes none
pub walk_declared : {T T' : Trail} {l : ℕ} → Inv T l → Declared T T' → {t w s : ℕ} → w < nv T → Walk T' t w s → Walk T t w s
walk_declared i d h (stop q m) = stop q (omega (arith, d.start_old _ h))
walk_declared i d h (back {w = w} m z r) =
    let o = d.prev_inv z in
    back {w = w} (omega (arith, d.start_old _ h)) o (walk_declared i d (prev_in i o) r)

-- a kept event changes none but its target's from its time on
module _ {T T' : Trail} {last : ℕ} {e : Event} {w : ℕ} (k : Kept T T' last e w) where
  walk_kept : {t x s : ℕ} → x < nv T → Walk T' t x s → Walk T t x s
  walk_kept h (stop q m) = stop q (omega (arith, k.now.start_old _ h))
  walk_kept {t} {x} {s} h (back {p = p} m z r) = go (λ h'. walk_kept h' r) (k.now.prev_inv z)
    where
      go : (p < nv T → Walk T t p s) → NewPrev T e w p x → Walk T t x s
      go ih (inl o) = back {w = x} (omega (arith, k.now.start_old x h)) o (ih (prev_in k.was o))
      go ih (inr o) = absurd (omega (arith, o.1, o.2))

  pub starts_back : {t y s : ℕ} → y < ne T → (y ≡ e.target.0 → t < e.time) → StartsAt T' y t s → StartsAt T y t s
  starts_back {t} {y} {s} h late r = go (kept_latest k y h)
    where
      new : y ≡ e.target.0 → New T T' e w → Walk T' t w s → Walk T t (latest_of T y) s
      new q n (stop _ m) = absurd (omega (arith, n.start, late q))
      new q n (back {p = p} m z r) = by (k.now.prev_inv z)
        where
          by : NewPrev T e w p w → Walk T t (latest_of T y) s
          by (inl o) = absurd (omega (arith, o.inside, n.is))
          by (inr o) = rw q (walk_kept (target_now k) (rw o.0 at r))

      target : y ≡ e.target.0 → Wide T T' e w ⊎ New T T' e w → Walk T' t w s → Walk T t (latest_of T y) s
      target q (inl c) r = rw q (walk_kept (target_now k) (rw c.is at r))
      target q (inr c) r = new q c r

      go : NewLatest T T' e w y → Walk T t (latest_of T y) s
      go (inl c) = target c.0 k.now.row.shape (rw c.1 at r)
      go (inr c) = walk_kept c.2 (rw c.1 at r)

-- a version that does not start at 0 has a previous one, and an edge enters it at its start
pub record Root (T : Trail) (a : ℕ) : Type 0 where
  pub prev : ℕ
  pub is : PrevIn T prev a
  pub from : ℕ
  pub enters : EdgeIn T from a (start_time T a)

abbrev pub Rooted : Trail → ℕ → Type 0
Rooted T a = (start_time T a ≡ 0) ⊎ Root T a

abbrev AllRooted : Trail → List Item → Type 0
AllRooted T hs = (a : ℕ) → a < nv T → Rooted T a

pub rooted : {T : Trail} {hs : List Item} → Grown T hs → (a : ℕ) → a < nv T → Rooted T a
rooted g = grown_ind AllRooted (λ T _ v _ a h. absurd (omega arith)) decl (λ T hs e g f r ih. ih) keep g
  where
    decl : OnDeclared AllRooted
    decl T T' hs g d ih a h = go (d.version_inv a h)
      where
        old : a < nv T → Rooted T a → Rooted T' a
        old m (inl q) = inl (d.start_old a m ∙ q)
        old m (inr r) = inr (record { prev = r.prev; is = d.prev_old r.is; from = r.from; enters = rw (d.start_old a m) (d.edge-old r.enters) })

        go : OldVersion T a → Rooted T' a
        go (inl m) = old m (ih a m)
        go (inr q) = inl (rw q d.row.start_new)

    keep : OnKept AllRooted
    keep T T' hs e w g k ih a h = go (k.now.version_inv a h)
      where
        old : a < nv T → Rooted T a → Rooted T' a
        old m (inl q) = inl (k.now.start_old a m ∙ q)
        old m (inr r) =
            inr (record { prev = r.prev; is = k.now.prev_old r.is; from = r.from; enters = rw (k.now.start_old a m) (k.now.edge-old r.enters) })

        go : NewVersion T w a → Rooted T' a
        go (inl m) = old m (ih a m)
        go (inr c) =
            let n = new_shape k c.1 in
            let p : PrevIn T' (latest_of T e.target.0) w = record { inside = k.now.w_in; some = n.some; is = n.previous } in
            inr (rw c.0 (record { prev = latest_of T e.target.0; is = p; from = latest_of T e.source.0; enters = rw n.start k.now.edge-new }))

-- there is one
walk_from : {T : Trail} {hs : List Item} → Grown T hs → (t n w : ℕ) → w < n → w < nv T → (s : ℕ) × Walk T t w s
walk_from g t zero w l h = absurd (omega arith)
walk_from {T} g t (suc n) w l h = go (dec_le (start_time T w) t) (rooted g w h) (λ p l h. walk_from g t n p l h)
  where
    go : Dec (start_time T w ≤ t) → Rooted T w → ((p : ℕ) → p < n → p < nv T → (s : ℕ) × Walk T t p s) → (s : ℕ) × Walk T t w s
    go (yes m) r ih = (w, stop refl m)
    go (no m) (inl z) ih = absurd (m (omega arith))
    go (no m) (inr r) ih =
        let z = (inv g).prev_less r.is in
        let s = ih r.prev (omega arith) (omega arith) in
        (s.0, back {w = w} (omega arith) r.is s.1)

pub starts_some : {T : Trail} {hs : List Item} → Grown T hs → (u t : ℕ) → u < ne T → (s : ℕ) × StartsAt T u t s
starts_some {T} g u t h = let l = (inv g).latest_in u h in walk_from g t (nv T) (latest_of T u) l l
