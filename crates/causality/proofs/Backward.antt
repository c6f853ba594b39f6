-- The versions marked backward from a start version, against the causal paths in by t.
use Prim.Native.Nat.{ℕ, ◌≤◌, ◌<◌}
use native.Mathlib.Omega.{arith}
use native.Mathlib.Decide.{dec_le}
use mathlib.Core.Path.{◌≡◌, refl, sym, ◌∙◌, ap, subst}
use mathlib.Core.Logic.Iff
use mathlib.Core.Logic.{inl, inr, ◌↔◌}
use mathlib.Core.List.{List}
use Rattle.rules.specs.Trail.{Trail, latest_of, owner_of}
use Rattle.rules.specs.History.{Item, accepted}
use Rattle.rules.specs.Backward.{BackwardMarks, start, into_start, into_other, previous}
use Rattle.causality.specs.Working.{ne, nv, previous_of, EntityMarked, last_of, Grown}
use Rattle.causality.proofs.Declared.{OldEntity, Declared}
use Rattle.causality.proofs.Invariant.{Inv, inv_declared}
use Rattle.causality.proofs.Growth.{inv, grown_ind, OnDropped, OnKept}
use Rattle.causality.proofs.Reach.{Reach, All-imp, reach_refl, reach_part, reach_never}
use Rattle.causality.proofs.Parts.{up_to, up_to_out, up_to_all, up_to_part}
use Rattle.causality.proofs.Accepted.{grown_within}
use Rattle.causality.proofs.Walk.{StartsAt, walk_last, starts_in, starts_back, walk_declared}
use Rattle.causality.proofs.ForwardMarks.{edge_at}
use Rattle.causality.proofs.BackwardMarks.{bwd_in, bwd_fwd, fwd_bwd, bwd_more, behind_kept}
use Rattle.causality.proofs.Ancestors.{ancestors}

-- entity x has a version marked backward from s at t
abbrev Behind : Trail → ℕ → ℕ → ℕ → Type 0
Behind T s t x = EntityMarked T (BackwardMarks T s t) x

-- with no event after t
backward_now : {T : Trail} {hs : List Item} → Grown T hs → (t x y s : ℕ) → last_of hs ≤ t → y < ne T → StartsAt T y t s → Behind T s t x ↔ Reach (accepted hs) x y
backward_now {T} {hs} g t x y s l h r = rw (← q) (to, from)
  where
    i : Inv T (last_of hs)
    i = inv g

    m : latest_of T y < nv T
    m = i.latest_in y h

    q : latest_of T y ≡ s
    q = walk_last (omega (arith, i.start_in _ m)) r

    to : Behind T (latest_of T y) t x → Reach (accepted hs) x y
    to b = (ancestors g x y h).0 (record { version = b.version; inside = bwd_in i m b.marked; owner = b.owner; leads = bwd_fwd i m b.marked })

    from : Reach (accepted hs) x y → Behind T (latest_of T y) t x
    from z =
        let a = (ancestors g x y h).1 z in
        record { version = a.version; marked = fwd_bwd (λ a b x c. omega (arith, i.time_in c)) a.leads (start refl); owner = a.owner }

abbrev Back : Trail → List Item → Type 0
Back T hs = (t x y s : ℕ) → y < ne T → StartsAt T y t s → Behind T s t x ↔ Reach (up_to t (accepted hs)) x y

backward_all : {T : Trail} {hs : List Item} → Grown T hs → (t x y s : ℕ) → last_of hs ≤ t → y < ne T → StartsAt T y t s
    → Behind T s t x ↔ Reach (up_to t (accepted hs)) x y
backward_all {T} {hs} g t x y s l h r =
    subst (λ z. Behind T s t x ↔ Reach z x y) (sym (up_to_all t (accepted hs) (All-imp (λ e w. omega (arith, w.by)) (accepted hs) (grown_within g)))) (backward_now g t x y s l h r)

-- a declaration
module _ (T T' : Trail) (hs : List Item) (g : Grown T hs) (d : Declared T T') (ih : Back T hs) where
  behind_declared : (t s x : ℕ) → s < nv T → Behind T' s t x ↔ Behind T s t x
  behind_declared t s x h = (to, from)
    where
      to : Behind T' s t x → Behind T s t x
      to b =
          let z = bwd_more (inv_declared (inv g) d) (omega (arith, d.row.nv_is)) (λ a b x c. d.edge_inv c) (λ a b c. d.prev_inv c) b.marked in
          record { version = b.version; marked = z; owner = sym (d.owner_old _ (bwd_in (inv g) h z)) ∙ b.owner }

      from : Behind T s t x → Behind T' s t x
      from b =
          record {
            version = b.version;
            marked = bwd_more (inv g) h (λ a b x c. d.edge-old c) (λ a b c. d.prev_old c) b.marked;
            owner = d.owner_old _ (bwd_in (inv g) h b.marked) ∙ b.owner;
          }

  -- the new entity
  alone : {t a : ℕ} → BackwardMarks T' (nv T) t a → a ≡ nv T
  alone (start z) = z
  alone (into_start k h q l z) = absurd (omega (arith, (inv g).to_in (d.edge_inv (edge_at k h (sym q)))))
  alone (into_other k z n h q r) = absurd (n (alone z))
  alone (previous z n q) = absurd (n (ap (previous_of T') (alone z) ∙ d.row.previous_new))

  behind_new : (t s x : ℕ) → StartsAt T' (ne T) t s → Behind T' s t x ↔ Reach (up_to t (accepted hs)) x (ne T)
  behind_new t s x r = rw (← q) (to, from)
    where
      q : nv T ≡ s
      q = walk_last (omega (arith, d.row.start_new)) (rw d.row.latest_new at r)

      to : Behind T' (nv T) t x → Reach (up_to t (accepted hs)) x (ne T)
      to b =
          subst (λ k. Reach (up_to t (accepted hs)) k (ne T)) (sym d.row.owner_new ∙ ap (owner_of T') (sym (alone b.marked)) ∙ b.owner)
          (reach_refl (up_to t (accepted hs)) (ne T))

      from : Reach (up_to t (accepted hs)) x (ne T) → Behind T' (nv T) t x
      from z =
          let e = reach_never (accepted hs) x (ne T) (All-imp (λ e w q. omega (arith, w.target_in)) (accepted hs) (grown_within g)) (reach_part (up_to_part t (accepted hs)) x (ne T) z) in
          record { version = nv T; marked = start refl; owner = d.row.owner_new ∙ sym e }

  backward-declared : Back T' hs
  backward-declared t x y s h r = go (d.entity_inv y h)
    where
      go : OldEntity T y → Behind T' s t x ↔ Reach (up_to t (accepted hs)) x y
      go (inl m) =
          let z = walk_declared (inv g) d ((inv g).latest_in y m) (rw (d.row.latest_old y m) at r) in
          Iff.trans (behind_declared t s x (starts_in (inv g) m z)) (ih t x y s m z)
      go (inr q) = rw q (behind_new t s x (rw q at r))

-- with an event after t
abbrev Late : Trail → List Item → Type 0
Late T hs = (t x y s : ℕ) → t < last_of hs → y < ne T → StartsAt T y t s → Behind T s t x ↔ Reach (up_to t (accepted hs)) x y

both : {T : Trail} {hs : List Item} → Grown T hs → Late T hs → Back T hs
both {T} {hs} g late t x y s h r = go (dec_le (last_of hs) t)
  where
    go : Dec (last_of hs ≤ t) → Behind T s t x ↔ Reach (up_to t (accepted hs)) x y
    go (yes l) = backward_all g t x y s l h r
    go (no l) = late t x y s (omega arith) h r

late_dropped : OnDropped Late
late_dropped T hs e g f p ih t x y s l h r = rw (up_to_out t e (accepted hs) l) (both g ih t x y s h r)

late_kept : OnKept Late
late_kept T T' hs e w g k ih t x y s l h r = rw (up_to_out t e (accepted hs) l) (Iff.trans (behind_kept k t l (starts_in (inv g) m z)) (both g ih t x y s m z))
  where
    m : y < ne T
    m = omega (arith, k.now.row.ne_is)

    z : StartsAt T y t s
    z = starts_back k m (λ _. l) r

pub backward_reach : {T : Trail} {hs : List Item} → Grown T hs → (t x y s : ℕ) → y < ne T → StartsAt T y t s → Behind T s t x ↔ Reach (up_to t (accepted hs)) x y
backward_reach g =
    both g
    (
    grown_ind Late (λ T q _ _ t x y s l h. absurd (omega arith))
    (λ T T' hs g d ih t x y s l h r. backward-declared T T' hs g d (both g ih) t x y s h r)
    late_dropped late_kept g
    )
