-- What a kept event changes, as facts about edges, version steps and latest versions.
use Prim.Native.Nat.{ℕ, ◌≤◌, ◌<◌}
use native.Mathlib.Omega.{arith}
use mathlib.Core.Path.{◌≡◌, sym, ◌∙◌}
use mathlib.Core.Logic.{◌⊎◌, inl, inr}
use Rattle.record.specs.declared.Event.{Event}
use Rattle.rules.specs.Trail.{Trail, latest_of, owner_of}
use Rattle.causality.specs.Working.{nv, nd, start_time, EdgeIn, PrevIn, Wide, New, AddsEdge}
use Rattle.causality.proofs.Declared.{below, edge_stands, edge_stood, prev_stands, prev_stood}

abbrev pub NewVersion : Trail → ℕ → ℕ → Type 0
NewVersion T w a = (a < nv T) ⊎ ((a ≡ w) × (w ≡ nv T))

abbrev pub NewEdge : Trail → Event → ℕ → ℕ → ℕ → ℕ → Type 0
NewEdge T e w a b t = EdgeIn T a b t ⊎ ((a ≡ latest_of T e.source.0) × (b ≡ w) × (t ≡ e.time))

abbrev pub NewPrev : Trail → Event → ℕ → ℕ → ℕ → Type 0
NewPrev T e w a b = PrevIn T a b ⊎ ((a ≡ latest_of T e.target.0) × (b ≡ w) × (w ≡ nv T))

pub record Entered (T T' : Trail) (e : Event) (w : ℕ) : Type 0 where
  pub row : AddsEdge T T' e w
  pub nv_le : nv T ≤ nv T'
  pub w_in : w < nv T'
  pub owner-w : owner_of T' w ≡ e.target.0
  pub version_inv : (a : ℕ) → a < nv T' → NewVersion T w a
  pub owner_old : (a : ℕ) → a < nv T → owner_of T' a ≡ owner_of T a
  pub start_old : (a : ℕ) → a < nv T → start_time T' a ≡ start_time T a
  pub edge-new : EdgeIn T' (latest_of T e.source.0) w e.time
  pub edge-old : {a b t : ℕ} → EdgeIn T a b t → EdgeIn T' a b t
  pub edge_inv : {a b t : ℕ} → EdgeIn T' a b t → NewEdge T e w a b t
  pub prev_old : {a b : ℕ} → PrevIn T a b → PrevIn T' a b
  pub prev_inv : {a b : ℕ} → PrevIn T' a b → NewPrev T e w a b

pub nv_grows : {T T' : Trail} {e : Event} {w : ℕ} → Wide T T' e w ⊎ New T T' e w → nv T ≤ nv T'
nv_grows (inl s) = omega (arith, s.nv_is)
nv_grows (inr s) = omega (arith, s.nv_is)

-- the target's latest version was in use, and its own
module _ {T T' : Trail} {e : Event} {w : ℕ} (r : AddsEdge T T' e w) (lt : latest_of T e.target.0 < nv T) (is : owner_of T (latest_of T e.target.0) ≡ e.target.0) where
  edge_last : {a b t : ℕ} → (h : EdgeIn T' a b t) → (h.number < nd T) ⊎ (h.number ≡ nd T) → NewEdge T e w a b t
  edge_last h (inl l) = inl (edge_stood r.old h l)
  edge_last h (inr q) = inr (sym h.from ∙ rw q r.from_new, sym h.to ∙ rw q r.to_new, sym h.time ∙ rw q r.time_new)

  w_inside : Wide T T' e w ⊎ New T T' e w → w < nv T'
  w_inside (inl s) = omega (arith, s.is, s.nv_is)
  w_inside (inr s) = omega (arith, s.is, s.nv_is)

  w-owner : Wide T T' e w ⊎ New T T' e w → owner_of T' w ≡ e.target.0
  w-owner (inl s) = rw s.is (r.old.owner_old _ lt ∙ is)
  w-owner (inr s) = s.owner

  version_last : (a : ℕ) → a < nv T' → Wide T T' e w ⊎ New T T' e w → NewVersion T w a
  version_last a h (inl s) = inl (omega (arith, s.nv_is))
  version_last a h (inr s) = go (below _ _ a s.nv_is h)
    where
      go : (a < nv T) ⊎ (a ≡ nv T) → NewVersion T w a
      go (inl l) = inl l
      go (inr q) = inr (q ∙ sym s.is, s.is)

  prev_last : {a b : ℕ} → PrevIn T' a b → Wide T T' e w ⊎ New T T' e w → NewPrev T e w a b
  prev_last h (inl s) = inl (prev_stood r.old h (omega (arith, s.nv_is, h.inside)))
  prev_last {a} {b} h (inr s) = go (below _ _ b s.nv_is h.inside)
    where
      go : (b < nv T) ⊎ (b ≡ nv T) → NewPrev T e w a b
      go (inl l) = inl (prev_stood r.old h l)
      go (inr q) = let p : b ≡ w = q ∙ sym s.is in inr (sym h.is ∙ rw p s.previous, p, s.is)

  pub entered_facts : Entered T T' e w
  entered_facts =
      record {
        row = r;
        nv_le = nv_grows r.shape;
        w_in = w_inside r.shape;
        owner-w = w-owner r.shape;
        version_inv = λ a h. version_last a h r.shape;
        owner_old = r.old.owner_old;
        start_old = r.old.start_old;
        edge-new = record { number = nd T; inside = omega (arith, r.nd_is); from = r.from_new; to = r.to_new; time = r.time_new };
        edge-old = edge_stands r.old (omega (arith, r.nd_is));
        edge_inv = λ h. edge_last h (below _ _ _ r.nd_is h.inside);
        prev_old = prev_stands r.old (nv_grows r.shape);
        prev_inv = λ h. prev_last h r.shape;
      }
