-- A kept event keeps what holds of the rows in use.
use Prim.Native.Nat.{ℕ, ◌≤◌, ◌<◌}
use native.Mathlib.Omega.{arith}
use mathlib.Core.Path.{◌≡◌, sym, ◌∙◌, ap}
use mathlib.Core.Logic.{inl, inr}
use Rattle.record.specs.declared.Event.{Event}
use Rattle.rules.specs.Trail.{Trail, latest_of, owner_of}
use Rattle.causality.specs.Working.{ne, nv, start_time, PrevIn}
use Rattle.causality.proofs.Entered.{NewVersion, NewEdge, NewPrev}
use Rattle.causality.proofs.Invariant.{Inv, prev_in}
use Rattle.causality.proofs.Kept.{Kept, NewLatest, kept_latest, source_now, target_now, latest_inj, new_shape, w_top}

module _ {T T' : Trail} {last : ℕ} {e : Event} {w : ℕ} (k : Kept T T' last e w) where
  kept_latest_in : (y : ℕ) → NewLatest T T' e w y → latest_of T' y < nv T'
  kept_latest_in y (inl c) = omega (arith, c.1, k.now.w_in)
  kept_latest_in y (inr c) = omega (arith, c.1, c.2, k.now.nv_le)

  kept_latest_owner : (y : ℕ) → y < ne T → NewLatest T T' e w y → owner_of T' (latest_of T' y) ≡ y
  kept_latest_owner y h (inl c) = ap (owner_of T') c.1 ∙ k.now.owner-w ∙ sym c.0
  kept_latest_owner y h (inr c) = ap (owner_of T') c.1 ∙ k.now.owner_old _ c.2 ∙ k.was.latest_owner y h

  kept_owner_in : (a : ℕ) → NewVersion T w a → owner_of T' a < ne T'
  kept_owner_in a (inl h) = omega (arith, k.now.owner_old a h, k.was.owner_in a h, k.now.row.ne_is)
  kept_owner_in a (inr c) = omega (arith, ap (owner_of T') c.0, k.now.owner-w, k.now.row.ne_is, k.fit.target_in)

  kept_start_in : (a : ℕ) → NewVersion T w a → start_time T' a ≤ e.time
  kept_start_in a (inl h) = omega (arith, k.now.start_old a h, k.was.start_in a h, k.fit.not_earlier)
  kept_start_in a (inr c) = omega (arith, ap (start_time T') c.0, (new_shape k c.1).start)

  kept_from_in : {a b t : ℕ} → NewEdge T e w a b t → a < nv T
  kept_from_in (inl h) = k.was.from_in h
  kept_from_in (inr c) = omega (arith, c.0, source_now k)

  kept_to_in : {a b t : ℕ} → NewEdge T e w a b t → b < nv T'
  kept_to_in (inl h) = omega (arith, k.was.to_in h, k.now.nv_le)
  kept_to_in (inr c) = omega (arith, c.1, k.now.w_in)

  kept_time_in : {a b t : ℕ} → NewEdge T e w a b t → t ≤ e.time
  kept_time_in (inl h) = omega (arith, k.was.time_in h, k.fit.not_earlier)
  kept_time_in (inr c) = omega (arith, c.2)

  kept_prev_less : (a b : ℕ) → NewPrev T e w a b → a < b
  kept_prev_less a b (inl p) = k.was.prev_less p
  kept_prev_less a b (inr c) = omega (arith, c, target_now k)

  kept_prev_owner : (a b : ℕ) → NewPrev T e w a b → owner_of T' a ≡ owner_of T' b
  kept_prev_owner a b (inl p) = k.now.owner_old _ (prev_in k.was p) ∙ k.was.prev_owner p ∙ sym (k.now.owner_old _ p.inside)
  kept_prev_owner a b (inr c) =
      ap (owner_of T') c.0 ∙ k.now.owner_old _ (target_now k) ∙ k.was.latest_owner _ k.fit.target_in ∙ sym (ap (owner_of T') c.1 ∙ k.now.owner-w)

  kept_prev_start : (a b : ℕ) → NewPrev T e w a b → start_time T' a ≤ start_time T' b
  kept_prev_start a b (inl p) = omega (arith, k.now.start_old a (prev_in k.was p), k.was.prev_start p, k.now.start_old b p.inside)
  kept_prev_start a b (inr c) =
      omega (
        arith,
        ap (start_time T') c.0,
        k.now.start_old _ (target_now k),
        k.was.start_in _ (target_now k),
        k.fit.not_earlier,
        ap (start_time T') c.1,
        (new_shape k c.2).start,
      )

  kept_prev_later : (a b : ℕ) → NewPrev T e w a b → 0 < start_time T' b
  kept_prev_later a b (inl p) = omega (arith, k.was.prev_later p, k.now.start_old b p.inside)
  kept_prev_later a b (inr c) = omega (arith, k.fit.positive, ap (start_time T') c.1, (new_shape k c.2).start)

  kept_top : (y : ℕ) → y < ne T → NewLatest T T' e w y → {b : ℕ} → PrevIn T' (latest_of T' y) b → ⊥
  kept_top y h (inl c) p = w_top k (rw c.1 at p)
  kept_top y h (inr c) {b} p = go (k.now.prev_inv (rw c.1 at p))
    where
      go : NewPrev T e w (latest_of T y) b → ⊥
      go (inl o) = k.was.top y h o
      go (inr z) = c.0 (latest_inj k y _ h k.fit.target_in z.0)

  pub inv_kept : Inv T' e.time
  inv_kept =
      record {
        latest_in = λ y h. kept_latest_in y (kept_latest k y (omega (arith, k.now.row.ne_is)));
        latest_owner = λ y h. let m : y < ne T = omega (arith, k.now.row.ne_is) in kept_latest_owner y m (kept_latest k y m);
        owner_in = λ a h. kept_owner_in a (k.now.version_inv a h);
        start_in = λ a h. kept_start_in a (k.now.version_inv a h);
        from_in = λ h. omega (arith, kept_from_in (k.now.edge_inv h), k.now.nv_le);
        to_in = λ h. kept_to_in (k.now.edge_inv h);
        time_in = λ h. kept_time_in (k.now.edge_inv h);
        prev_less = λ h. kept_prev_less _ _ (k.now.prev_inv h);
        prev_owner = λ h. kept_prev_owner _ _ (k.now.prev_inv h);
        prev_start = λ h. kept_prev_start _ _ (k.now.prev_inv h);
        prev_later = λ h. kept_prev_later _ _ (k.now.prev_inv h);
        top = λ y h p. let m : y < ne T = omega (arith, k.now.row.ne_is) in kept_top y m (kept_latest k y m) p;
      }
