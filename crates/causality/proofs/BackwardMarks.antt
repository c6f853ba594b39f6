-- The versions marked backward: forward turned round, the same in trails with the same edges and version steps, and not
-- changed by a kept event after t.
use Prim.Native.Nat.{ℕ, ◌≤◌, ◌<◌}
use native.Mathlib.Omega.{arith}
use native.Mathlib.Decide.{ℕ_discrete}
use mathlib.Core.Path.{◌≡◌, refl, sym, ◌∙◌, subst}
use mathlib.Core.Logic.{◌⊎◌, inl, inr, ◌↔◌}
use Rattle.record.specs.declared.Event.{Event}
use Rattle.rules.specs.Trail.{Trail, none}
use Rattle.rules.specs.Forward.{ForwardMarks}
use Rattle.rules.specs.Backward.{BackwardMarks, start, into_start, into_other, previous}
use Rattle.causality.specs.Working.{nv, nd, EdgeIn, PrevIn, EntityMarked}
use Rattle.causality.proofs.Entered.{NewEdge, NewPrev}
use Rattle.causality.proofs.Invariant.{Inv, prev_in}
use Rattle.causality.proofs.Kept.{Kept, w_top, w_unused}
use Rattle.causality.proofs.ForwardMarks.{along, onward, edge_at, fwd_trans}

-- the edge of a clause
edge-from : {T : Trail} (k : ℕ) {a b : ℕ} → k < nd T → (T.edge k).to.0 ≡ b → a ≡ (T.edge k).from.0 → EdgeIn T a b (T.edge k).time
edge-from k h q z = record { number = k; inside = h; from = sym z; to = q; time = refl }

-- by an edge, by a version step
pub against : {T : Trail} {s t a b x : ℕ} → BackwardMarks T s t b → EdgeIn T a b x → (b ≡ s → x ≤ t) → BackwardMarks T s t a
against {T} {s} {t} {a} {b} {x} d h l = go (ℕ_discrete b s)
  where
    go : Dec (b ≡ s) → BackwardMarks T s t a
    go (yes q) = into_start h.number h.inside (h.to ∙ q) (omega (arith, l q, h.time)) (sym h.from)
    go (no n) = into_other h.number d n h.inside h.to (sym h.from)

pub backward-step : {T : Trail} {s t a b : ℕ} → BackwardMarks T s t b → PrevIn T a b → BackwardMarks T s t a
backward-step d p = previous d p.some (sym p.is)

-- something leaves version b
abbrev Used : Trail → ℕ → Type 0
Used T b = ((c : ℕ) × (x : ℕ) × EdgeIn T b c x) ⊎ ((c : ℕ) × PrevIn T b c)

module _ {T : Trail} {l s t : ℕ} (i : Inv T l) (m : s < nv T) where
  pub bwd_in : {a : ℕ} → BackwardMarks T s t a → a < nv T
  bwd_in (start q) = rw q m
  bwd_in (into_start k h q c z) = i.from_in (edge-from k h q z)
  bwd_in (into_other k d n h q z) = i.from_in (edge-from k h q z)
  bwd_in {a} (previous {b = b} d n q) = let p : PrevIn T a b = record { inside = bwd_in d; some = n; is = sym q } in prev_in i p

  bwd_prev : {a b : ℕ} → BackwardMarks T s t b → ((T.version b).previous.0 ≡ none → ⊥) → a ≡ (T.version b).previous.0 → PrevIn T a b
  bwd_prev d n q = record { inside = bwd_in d; some = n; is = sym q }

  -- forward turned round
  pub bwd_fwd : {a : ℕ} → BackwardMarks T s t a → ForwardMarks T a s
  bwd_fwd (start q) = ForwardMarks.start (sym q)
  bwd_fwd (into_start k h q c z) = along (ForwardMarks.start refl) (edge-from k h q z)
  bwd_fwd (into_other k d n h q z) = fwd_trans (along (ForwardMarks.start refl) (edge-from k h q z)) (bwd_fwd d)
  bwd_fwd (previous d n q) = fwd_trans (onward (ForwardMarks.start refl) (bwd_prev d n q)) (bwd_fwd d)

  -- a marked version other than the start version is left by something
  bwd_used : {b : ℕ} → BackwardMarks T s t b → (b ≡ s) ⊎ Used T b
  bwd_used (start q) = inl q
  bwd_used (into_start k h q c z) = inr (inl (_, _, edge-from k h q z))
  bwd_used (into_other k d n h q z) = inr (inl (_, _, edge-from k h q z))
  bwd_used (previous d n q) = inr (inr (_, bwd_prev d n q))

  -- more rows, more versions
  pub bwd_more : {T' : Trail} → ((a b x : ℕ) → EdgeIn T a b x → EdgeIn T' a b x) → ((a b : ℕ) → PrevIn T a b → PrevIn T' a b) → {a : ℕ}
      → BackwardMarks T s t a → BackwardMarks T' s t a
  bwd_more u v (start q) = start q
  bwd_more u v (into_start k h q c z) = against (start refl) (u _ _ _ (edge-from k h q z)) (λ _. c)
  bwd_more u v (into_other k d n h q z) = against (bwd_more u v d) (u _ _ _ (edge-from k h q z)) (λ r. absurd (n r))
  bwd_more u v (previous d n q) = backward-step (bwd_more u v d) (v _ _ (bwd_prev d n q))

-- with all edges by t, forward turned round is backward
pub fwd_bwd : {T : Trail} {s t a b : ℕ} → ((a b x : ℕ) → EdgeIn T a b x → x ≤ t) → ForwardMarks T a b → BackwardMarks T s t b → BackwardMarks T s t a
fwd_bwd {T} {s} {t} l (ForwardMarks.start q) d = subst (BackwardMarks T s t) q d
fwd_bwd l (ForwardMarks.leaving k h f q) d = fwd_bwd l f (against d (edge_at k h q) (λ _. l _ _ _ (edge_at k h q)))
fwd_bwd l (ForwardMarks.next f h n q) d = fwd_bwd l f (previous d n q)

-- a kept event after t changes no mark
module _ {T T' : Trail} {last : ℕ} {e : Event} {w : ℕ} (k : Kept T T' last e w) (t : ℕ) (late : t < e.time) {s : ℕ} (m : s < nv T) where
  by_edge_lem : (a b x : ℕ) → EdgeIn T' a b x → (b ≡ s → x ≤ t) → BackwardMarks T s t b → BackwardMarks T s t a
  by_edge_lem a b x y c d = go (k.now.edge_inv y)
    where
      used : Used T w → ⊥
      used (inl (c, x, z)) = w_unused k (k.now.edge-old z)
      used (inr (c, z)) = w_top k (k.now.prev_old z)

      enters : x ≡ e.time → b ≡ w → (b ≡ s) ⊎ Used T b → ⊥
      enters q r (inl z) = omega (arith, c z, q)
      enters q r (inr u) = used (rw r at u)

      go : NewEdge T e w a b x → BackwardMarks T s t a
      go (inl o) = against d o c
      go (inr o) = absurd (enters o.2 o.1 (bwd_used k.was m d))

  by_prev : (a b : ℕ) → PrevIn T' a b → BackwardMarks T s t b → BackwardMarks T s t a
  by_prev a b p d = go (k.now.prev_inv p)
    where
      go : NewPrev T e w a b → BackwardMarks T s t a
      go (inl o) = backward-step d o
      go (inr o) = absurd (omega (arith, bwd_in k.was m d, o.1, o.2))

  bwd_kept : {a : ℕ} → BackwardMarks T' s t a → BackwardMarks T s t a
  bwd_kept (start q) = start q
  bwd_kept (into_start n h q c z) = by_edge_lem _ s _ (edge-from n h q z) (λ _. c) (start refl)
  bwd_kept (into_other n {b = b} d o h q z) = by_edge_lem _ b _ (edge-from n h q z) (λ r. absurd (o r)) (bwd_kept d)
  bwd_kept (previous {b = b} d n q) =
      let y = bwd_kept d in
      by_prev _ b (record { inside = omega (arith, bwd_in k.was m y, k.now.nv_le); some = n; is = sym q }) y

  pub behind_kept : {x : ℕ} → EntityMarked T' (BackwardMarks T' s t) x ↔ EntityMarked T (BackwardMarks T s t) x
  behind_kept {x} = (to, from)
    where
      to : EntityMarked T' (BackwardMarks T' s t) x → EntityMarked T (BackwardMarks T s t) x
      to b = let z = bwd_kept b.marked in record { version = b.version; marked = z; owner = sym (k.now.owner_old _ (bwd_in k.was m z)) ∙ b.owner }

      from : EntityMarked T (BackwardMarks T s t) x → EntityMarked T' (BackwardMarks T' s t) x
      from b =
          record {
            version = b.version;
            marked = bwd_more k.was m (λ a b x c. k.now.edge-old c) (λ a b c. k.now.prev_old c) b.marked;
            owner = k.now.owner_old _ (bwd_in k.was m b.marked) ∙ b.owner;
          }
