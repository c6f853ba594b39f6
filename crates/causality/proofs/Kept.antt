-- A kept event, with what was known before it: the latest versions, and the version that its edge enters.
use Prim.Native.Nat.{ℕ, ◌<◌}
use native.Mathlib.Omega.{arith}
use native.Mathlib.Decide.{ℕ_discrete}
use mathlib.Core.Path.{◌≡◌, sym, ◌∙◌, ap}
use mathlib.Core.Logic.{◌⊎◌, inl, inr}
use Rattle.record.specs.declared.Event.{Event}
use Rattle.rules.specs.Trail.{Trail, latest_of, owner_of}
use Rattle.causality.specs.Working.{ne, nv, EdgeIn, PrevIn, Fit, Wide, New, AddsEdge}
use Rattle.causality.proofs.Entered.{NewEdge, NewPrev, Entered, entered_facts}
use Rattle.causality.proofs.Invariant.{Inv, prev_in}

pub record Kept (T T' : Trail) (last : ℕ) (e : Event) (w : ℕ) : Type 0 where
  pub fit : Fit T last e
  pub was : Inv T last
  pub now : Entered T T' e w

pub kept_facts : {T T' : Trail} {last : ℕ} {e : Event} {w : ℕ} → Inv T last → Fit T last e → AddsEdge T T' e w → Kept T T' last e w
kept_facts i f r =
    record { fit = f; was = i; now = entered_facts r (i.latest_in _ f.target_in) (i.latest_owner _ f.target_in) }

-- the latest version of y after it
abbrev pub NewLatest : Trail → Trail → Event → ℕ → ℕ → Type 0
NewLatest T T' e w y =
    ((y ≡ e.target.0) × (latest_of T' y ≡ w)) ⊎ ((y ≡ e.target.0 → ⊥) × (latest_of T' y ≡ latest_of T y) × (latest_of T y < nv T))

module _ {T T' : Trail} {last : ℕ} {e : Event} {w : ℕ} (k : Kept T T' last e w) where
  pub kept_latest : (y : ℕ) → y < ne T → NewLatest T T' e w y
  kept_latest y h = go (ℕ_discrete y e.target.0)
    where
      go : Dec (y ≡ e.target.0) → NewLatest T T' e w y
      go (yes q) = inl (q, rw q k.now.row.latest_target)
      go (no n) = inr (n, k.now.row.latest_other y h n, k.was.latest_in y h)

  -- the latest versions before it
  pub source_now : latest_of T e.source.0 < nv T
  source_now = k.was.latest_in _ k.fit.source_in

  pub target_now : latest_of T e.target.0 < nv T
  target_now = k.was.latest_in _ k.fit.target_in

  -- two entities with one latest version are one
  pub latest_inj : (y z : ℕ) → y < ne T → z < ne T → latest_of T y ≡ latest_of T z → y ≡ z
  latest_inj y z h g q = sym (k.was.latest_owner y h) ∙ ap (owner_of T) q ∙ k.was.latest_owner z g

  pub new_shape : w ≡ nv T → New T T' e w
  new_shape q = go k.now.row.shape
    where
      go : Wide T T' e w ⊎ New T T' e w → New T T' e w
      go (inl s) = absurd (omega (arith, s.is, target_now))
      go (inr s) = s

  -- nothing leaves the version that it enters
  pub w_top : {b : ℕ} → PrevIn T' w b → ⊥
  w_top {b} p = go k.now.row.shape (k.now.prev_inv p)
    where
      go : Wide T T' e w ⊎ New T T' e w → NewPrev T e w w b → ⊥
      go (inl s) (inl o) = k.was.top _ k.fit.target_in (rw s.is at o)
      go (inl s) (inr c) = omega (arith, c, target_now)
      go (inr s) (inl o) = omega (arith, prev_in k.was o, s.is)
      go (inr s) (inr c) = omega (arith, c, target_now)

  pub w_unused : {b t : ℕ} → EdgeIn T' w b t → ⊥
  w_unused {b} {t} p = go k.now.row.shape (k.now.edge_inv p)
    where
      source_not : w ≡ latest_of T e.source.0 → Wide T T' e w ⊎ New T T' e w → ⊥
      source_not q (inl s) = k.fit.apart (latest_inj _ _ k.fit.source_in k.fit.target_in (sym q ∙ s.is))
      source_not q (inr s) = omega (arith, q, s.is, source_now)

      go : Wide T T' e w ⊎ New T T' e w → NewEdge T e w w b t → ⊥
      go (inl s) (inl o) = s.unused b t o
      go (inr s) (inl o) = omega (arith, k.was.from_in o, s.is)
      go s (inr c) = source_not c.0 s

  -- the latest version of another entity is not the one that it enters
  pub w-other : (y : ℕ) → y < ne T → (y ≡ e.target.0 → ⊥) → latest_of T y ≡ w → ⊥
  w-other y h n q = go k.now.row.shape
    where
      go : Wide T T' e w ⊎ New T T' e w → ⊥
      go (inl s) = n (latest_inj y _ h k.fit.target_in (q ∙ s.is))
      go (inr s) = omega (arith, s.is, k.was.latest_in y h)
