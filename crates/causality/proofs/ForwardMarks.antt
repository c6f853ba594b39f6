-- The versions marked forward: transitive, the same in trails with the same edges and version steps, and what a kept
-- event adds.
use Prim.Native.Nat.{ℕ, ◌<◌}
use mathlib.Core.Path.{◌≡◌, refl, sym, ◌∙◌, subst}
use mathlib.Core.Logic.{◌⊎◌, inl, inr}
use Rattle.record.specs.declared.Event.{Event}
use Rattle.rules.specs.Trail.{Trail, latest_of}
use Rattle.rules.specs.Forward.{ForwardMarks, start, leaving, next}
use Rattle.causality.specs.Working.{ne, nv, nd, EdgeIn, PrevIn, Wide, New}
use Rattle.causality.proofs.Declared.{Declared}
use Rattle.causality.proofs.Entered.{NewEdge, NewPrev}
use Rattle.causality.proofs.Invariant.{Inv}
use Rattle.causality.proofs.Kept.{Kept, kept_latest, NewLatest, w_top, w_unused}

-- by an edge, by a version step
pub along : {T : Trail} {s a b t : ℕ} → ForwardMarks T s a → EdgeIn T a b t → ForwardMarks T s b
along {T} {s} d h = leaving h.number h.inside (subst (ForwardMarks T s) (sym h.from) d) (sym h.to)

pub onward : {T : Trail} {s a b : ℕ} → ForwardMarks T s a → PrevIn T a b → ForwardMarks T s b
onward d p = next d p.inside p.some (sym p.is)

-- the edge and the version step of the last clause
pub edge_at : {T : Trail} (k : ℕ) {b : ℕ} → k < nd T → b ≡ (T.edge k).to.0 → EdgeIn T (T.edge k).from.0 b (T.edge k).time
edge_at k h q = record { number = k; inside = h; from = refl; to = sym q; time = refl }

pub fwd_trans : {T : Trail} {r s b : ℕ} → ForwardMarks T r s → ForwardMarks T s b → ForwardMarks T r b
fwd_trans {T} {r} d (start q) = subst (ForwardMarks T r) (sym q) d
fwd_trans d (leaving k h f q) = leaving k h (fwd_trans d f) q
fwd_trans d (next f h n q) = next (fwd_trans d f) h n q

pub fwd_in : {T : Trail} {l : ℕ} → Inv T l → {s b : ℕ} → s < nv T → ForwardMarks T s b → b < nv T
fwd_in i h (start q) = rw q h
fwd_in i h (leaving k m d q) = i.to_in (edge_at k m q)
fwd_in i h (next d m n q) = m

-- a version that nothing leaves reaches itself alone
pub fwd_sink : {T : Trail} {s b : ℕ} → ((c t : ℕ) → EdgeIn T s c t → ⊥) → ((c : ℕ) → PrevIn T s c → ⊥) → ForwardMarks T s b → b ≡ s
fwd_sink u v (start q) = q
fwd_sink {T} u v (leaving k {b = b} m d q) = absurd (u b (T.edge k).time (subst (λ z. EdgeIn T z b (T.edge k).time) (fwd_sink u v d) (edge_at k m q)))
fwd_sink {T} u v (next {b = b} d m n q) = absurd (v b (record { inside = m; some = n; is = sym q ∙ fwd_sink u v d }))

-- more rows, more versions
pub fwd_more : {T T' : Trail} {s b : ℕ} → ((a b t : ℕ) → EdgeIn T a b t → EdgeIn T' a b t) → ((a b : ℕ) → PrevIn T a b → PrevIn T' a b) → ForwardMarks T s b
    → ForwardMarks T' s b
fwd_more u v (start q) = start q
fwd_more u v (leaving k m d q) = along (fwd_more u v d) (u _ _ _ (edge_at k m q))
fwd_more u v (next d m n q) = onward (fwd_more u v d) (v _ _ (record { inside = m; some = n; is = sym q }))

pub fwd_declared : {T T' : Trail} {s b : ℕ} → Declared T T' → ForwardMarks T s b → ForwardMarks T' s b
fwd_declared d h = fwd_more (λ a b t h. d.edge-old h) (λ a b h. d.prev_old h) h

pub fwd_undeclared : {T T' : Trail} {s b : ℕ} → Declared T T' → ForwardMarks T' s b → ForwardMarks T s b
fwd_undeclared d h = fwd_more (λ a b t h. d.edge_inv h) (λ a b h. d.prev_inv h) h

module _ {T T' : Trail} {last : ℕ} {e : Event} {w : ℕ} (k : Kept T T' last e w) where
  -- a kept event adds the version that it enters, where the source's or the target's latest was reached
  abbrev pub Gain : ℕ → ℕ → Type 0
  Gain s b = ForwardMarks T s b ⊎ ((b ≡ w) × (ForwardMarks T s (latest_of T e.source.0) ⊎ ForwardMarks T s (latest_of T e.target.0)))

  gain_edge : (s a b t : ℕ) → EdgeIn T' a b t → Gain s a → NewEdge T e w a b t → Gain s b
  gain_edge s a b t h (inl d) (inl o) = inl (along d o)
  gain_edge s a b t h (inl d) (inr c) = inr (c.1, inl (rw c.0 at d))
  gain_edge s a b t h (inr g) o = absurd (w_unused k (rw g.0 at h))

  gain_prev : (s a b : ℕ) → PrevIn T' a b → Gain s a → NewPrev T e w a b → Gain s b
  gain_prev s a b p (inl d) (inl o) = inl (onward d o)
  gain_prev s a b p (inl d) (inr c) = inr (c.1, inr (rw c.0 at d))
  gain_prev s a b p (inr g) o = absurd (w_top k (rw g.0 at p))

  pub fwd_kept : {s b : ℕ} → ForwardMarks T' s b → Gain s b
  fwd_kept (start q) = inl (start q)
  fwd_kept {s} {b} (leaving n m d q) = let h = edge_at n m q in gain_edge s _ b _ h (fwd_kept d) (k.now.edge_inv h)
  fwd_kept {s} {b} (next {a = a} d m n q) =
      let p : PrevIn T' a b = record { inside = m; some = n; is = sym q } in
      gain_prev s a b p (fwd_kept d) (k.now.prev_inv p)

  pub kept_more : {s b : ℕ} → ForwardMarks T s b → ForwardMarks T' s b
  kept_more d = fwd_more (λ a b t h. k.now.edge-old h) (λ a b h. k.now.prev_old h) d

  -- the latest version of the target reaches the version that the edge enters
  pub target_up : ForwardMarks T' (latest_of T e.target.0) w
  target_up = go k.now.row.shape
    where
      go : Wide T T' e w ⊎ New T T' e w → ForwardMarks T' (latest_of T e.target.0) w
      go (inl s) = start s.is
      go (inr s) = next (start refl) k.now.w_in s.some (sym s.previous)

  pub latest_up : (y : ℕ) → y < ne T → {s : ℕ} → ForwardMarks T' s (latest_of T y) → ForwardMarks T' s (latest_of T' y)
  latest_up y h {s} d = go (kept_latest k y h)
    where
      go : NewLatest T T' e w y → ForwardMarks T' s (latest_of T' y)
      go (inl c) = subst (ForwardMarks T' s) (sym c.1) (fwd_trans (subst (λ z. ForwardMarks T' s (latest_of T z)) c.0 d) target_up)
      go (inr c) = subst (ForwardMarks T' s) (sym c.1) d
