-- One record keeps the claim that links the versions marked forward from a start version to the entities reached through
-- later events.
use Prim.Native.Nat.{ℕ, ◌≤◌, ◌<◌}
use native.Mathlib.Omega.{arith}
use mathlib.Core.Path.{◌≡◌, sym, ◌∙◌, ap, subst}
use mathlib.Core.Logic.{◌⊎◌, inl, inr, ◌↔◌}
use mathlib.Core.Bool.{cond}
use mathlib.Core.List.{List, [], ◌∷◌}
use Rattle.record.specs.declared.Event.{Event}
use Rattle.rules.specs.Trail.{Trail, latest_of}
use Rattle.rules.specs.History.{Item, kept, accepted, into, since}
use Rattle.rules.specs.Forward.{ForwardMarks, start}
use Rattle.causality.specs.Working.{ne, nv, Wide, New, last_of, Grown}
use Rattle.causality.proofs.Declared.{OldEntity, Declared}
use Rattle.causality.proofs.Kept.{Kept, kept_latest, NewLatest, w_top, w_unused, w-other}
use Rattle.causality.proofs.KeptInvariant.{inv_kept}
use Rattle.causality.proofs.Growth.{inv, OnDropped}
use Rattle.causality.proofs.Reach.{Reach, All-imp, reach_refl, reach_part, reach_stuck}
use Rattle.causality.proofs.Parts.{IntoCase, into_cases, since_part}
use Rattle.causality.proofs.Accepted.{grown_within, reach_within}
use Rattle.causality.proofs.Walk.{StartsAt, walk_last, starts_in, starts_back, walk_declared}
use Rattle.causality.proofs.ForwardMarks.{along, fwd_trans, fwd_in, fwd_sink, fwd_declared, fwd_undeclared, Gain, fwd_kept, kept_more, latest_up}
use Rattle.causality.proofs.Upward.{leads_up}

-- from the start version of u at t, the latest version of y is marked where a causal path leads from u to y through
-- events accepted after the latest kept intake of u by t
abbrev pub Claim : Trail → List Item → Type 0
Claim T hs = (u t s y : ℕ) → u < ne T → y < ne T → StartsAt T u t s → ForwardMarks T s (latest_of T y) ↔ Reach (since u t hs) u y

-- a declaration
module _ (T T' : Trail) (hs : List Item) (g : Grown T hs) (d : Declared T T') (ih : Claim T hs) where
  -- of an entity that was there
  claim_old : (u t s y : ℕ) → u < ne T → OldEntity T y → StartsAt T' u t s → ForwardMarks T' s (latest_of T' y) ↔ Reach (since u t hs) u y
  claim_old u t s y h o r = go o
    where
      z : StartsAt T u t s
      z = walk_declared (inv g) d ((inv g).latest_in u h) (rw (d.row.latest_old u h) at r)

      go : OldEntity T y → ForwardMarks T' s (latest_of T' y) ↔ Reach (since u t hs) u y
      go (inl m) = let o = ih u t s y h m z in rw (d.row.latest_old y m) (λ x. o.0 (fwd_undeclared d x), λ x. fwd_declared d (o.1 x))
      go (inr q) =
          rw (q, d.row.latest_new) (
            λ x. absurd (omega (arith, fwd_in (inv g) (starts_in (inv g) h z) (fwd_undeclared d x))),
            λ x. absurd (omega (arith, reach_within (ne T) (last_of hs) (accepted hs) (grown_within g) u (ne T) h (reach_part (since_part u t hs) u (ne T) x))),
          )

  -- of the new one
  claim_new : (t s y : ℕ) → OldEntity T y → StartsAt T' (ne T) t s → ForwardMarks T' s (latest_of T' y) ↔ Reach (since (ne T) t hs) (ne T) y
  claim_new t s y o r = rw (← q) (to o, from)
    where
      q : nv T ≡ s
      q = walk_last (omega (arith, d.row.start_new)) (rw d.row.latest_new at r)

      sink : {b : ℕ} → ForwardMarks T' (nv T) b → b ≡ nv T
      sink = fwd_sink (λ c t k. omega (arith, (inv g).from_in (d.edge_inv k))) (λ c p. let o = d.prev_inv p in omega (arith, (inv g).prev_less o, o.inside))

      to : OldEntity T y → ForwardMarks T' (nv T) (latest_of T' y) → Reach (since (ne T) t hs) (ne T) y
      to (inl m) z = absurd (omega (arith, sink z, d.row.latest_old y m, (inv g).latest_in y m))
      to (inr p) z = rw p (reach_refl (since (ne T) t hs) (ne T))

      from : Reach (since (ne T) t hs) (ne T) y → ForwardMarks T' (nv T) (latest_of T' y)
      from z =
          let p : ne T ≡ y = reach_stuck (accepted hs) (ne T) y (All-imp (λ e k r. omega (arith, k.source_in)) (accepted hs) (grown_within g)) (reach_part (since_part (ne T) t hs) (ne T) y z) in
          start (ap (latest_of T') (sym p) ∙ d.row.latest_new)

  pub claim_declared : Claim T' hs
  claim_declared u t s y h m r = go (d.entity_inv u h)
    where
      go : OldEntity T u → ForwardMarks T' s (latest_of T' y) ↔ Reach (since u t hs) u y
      go (inl o) = claim_old u t s y o (d.entity_inv y m) r
      go (inr q) = subst (λ z. ForwardMarks T' s (latest_of T' y) ↔ Reach (since z t hs) z y) (sym q) (claim_new t s y (d.entity_inv y m) (rw q at r))

-- a dropped event
pub claim_dropped : OnDropped Claim
unfolding since
claim_dropped T hs e g f l ih u t s y h m r = (λ z. inl ((ih u t s y h m r).0 z), back)
  where
    back : Reach (e ∷ since u t hs) u y → ForwardMarks T s (latest_of T y)
    back (inl z) = (ih u t s y h m r).1 z
    back (inr z) = rw z.0 (fwd_trans ((ih u t s e.source.0 h f.source_in r).1 z.1) (leads_up g ((inv g).latest_in _ f.source_in) l))

-- a kept event
module _ (T T' : Trail) (hs : List Item) (e : Event) (w : ℕ) (k : Kept T T' (last_of hs) e w) (ih : Claim T hs) where
  -- from a start version that it does not change
  claim_kept_old : (u t s y : ℕ) → u < ne T → y < ne T → StartsAt T u t s → ForwardMarks T' s (latest_of T' y) ↔ Reach (e ∷ since u t hs) u y
  claim_kept_old u t s y h m r = (to (kept_latest k y m), from)
    where
      -- what was marked before, of the version that the edge enters
      entered : ForwardMarks T s w → Wide T T' e w ⊎ New T T' e w → ForwardMarks T s (latest_of T e.target.0)
      entered z (inl c) = rw c.is at z
      entered z (inr c) = absurd (omega (arith, fwd_in k.was (starts_in k.was h r) z, c.is))

      gained : y ≡ e.target.0 → Gain k s w → Reach (e ∷ since u t hs) u y
      gained q (inl z) = inl (rw q ((ih u t s e.target.0 h k.fit.target_in r).0 (entered z k.now.row.shape)))
      gained q (inr (_, inl z)) = inr (q, (ih u t s e.source.0 h k.fit.source_in r).0 z)
      gained q (inr (_, inr z)) = inl (rw q ((ih u t s e.target.0 h k.fit.target_in r).0 z))

      other : (y ≡ e.target.0 → ⊥) → Gain k s (latest_of T y) → Reach (e ∷ since u t hs) u y
      other n (inl z) = inl ((ih u t s y h m r).0 z)
      other n (inr z) = absurd (w-other k y m n z.0)

      to : NewLatest T T' e w y → ForwardMarks T' s (latest_of T' y) → Reach (e ∷ since u t hs) u y
      to (inl c) z = gained c.0 (fwd_kept k (rw c.1 at z))
      to (inr c) z = other c.0 (fwd_kept k (rw c.1 at z))

      from : Reach (e ∷ since u t hs) u y → ForwardMarks T' s (latest_of T' y)
      from (inl z) = latest_up k y m (kept_more k ((ih u t s y h m r).1 z))
      from (inr z) =
          rw (z.0, k.now.row.latest_target) (along (kept_more k ((ih u t s e.source.0 h k.fit.source_in r).1 z.1)) k.now.edge-new)

  -- from the version that it enters
  claim_kept_new : (t s y : ℕ) → e.time ≤ t → y < ne T → StartsAt T' e.target.0 t s → ForwardMarks T' s (latest_of T' y) ↔ (e.target.0 ≡ y)
  claim_kept_new t s y l m r = rw (← q) (to (kept_latest k y m), from)
    where
      q : w ≡ s
      q = walk_last (omega (arith, (inv_kept k).start_in w k.now.w_in)) (rw k.now.row.latest_target at r)

      sink : {b : ℕ} → ForwardMarks T' w b → b ≡ w
      sink = fwd_sink (λ c t h. w_unused k h) (λ c p. w_top k p)

      to : NewLatest T T' e w y → ForwardMarks T' w (latest_of T' y) → e.target.0 ≡ y
      to (inl c) z = sym c.0
      to (inr c) z = absurd (w-other k y m c.0 (sym c.1 ∙ sink z))

      from : e.target.0 ≡ y → ForwardMarks T' w (latest_of T' y)
      from p = start (ap (latest_of T') (sym p) ∙ k.now.row.latest_target)

  pub claim_kept : Claim T' (kept e ∷ hs)
  unfolding since
  claim_kept u t s y h m r = go (into_cases u t e)
    where
      m' : y < ne T
      m' = omega (arith, k.now.row.ne_is)

      h' : u < ne T
      h' = omega (arith, k.now.row.ne_is)

      go : IntoCase u t e → ForwardMarks T' s (latest_of T' y) ↔ Reach (cond (into u t e) [] (e ∷ since u t hs)) u y
      go (inl c) = rw c.2 (subst (λ x. ForwardMarks T' s (latest_of T' y) ↔ (x ≡ y)) c.0 (claim_kept_new t s y c.1 m' (rw (← c.0) at r)))
      go (inr c) = rw c.1 (claim_kept_old u t s y h' m' (starts_back k h' (λ q. late (c.0 (sym q))) r))
        where
          late : (e.time ≤ t → ⊥) → t < e.time
          late n = omega (arith, n)
