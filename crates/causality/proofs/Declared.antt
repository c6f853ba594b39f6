-- What a declaration changes, as facts about edges, version steps and latest versions.
use Prim.Native.Nat.{ℕ, suc, ◌≤◌, ◌<◌}
use native.Mathlib.Omega.{arith}
use native.Mathlib.Decide.{dec_lt}
use mathlib.Core.Path.{◌≡◌, sym, ◌∙◌}
use mathlib.Core.Logic.{◌⊎◌, inl, inr}
use Rattle.rules.specs.Trail.{Trail, owner_of}
use Rattle.causality.specs.Working.{ne, nv, nd, start_time, EdgeIn, PrevIn, Keeps, Declares}

-- a row was there, or it is the new one
abbrev pub OldVersion : Trail → ℕ → Type 0
OldVersion T a = (a < nv T) ⊎ (a ≡ nv T)

abbrev pub OldEntity : Trail → ℕ → Type 0
OldEntity T x = (x < ne T) ⊎ (x ≡ ne T)

pub below : (m n a : ℕ) → m ≡ suc n → a < m → (a < n) ⊎ (a ≡ n)
below m n a q h = go (dec_lt a n)
  where
    go : Dec (a < n) → (a < n) ⊎ (a ≡ n)
    go (yes k) = inl k
    go (no k) = inr (omega arith)

-- rows that stand
module _ {T T' : Trail} (o : Keeps T T') where
  pub edge_stands : nd T ≤ nd T' → {a b t : ℕ} → EdgeIn T a b t → EdgeIn T' a b t
  edge_stands m h =
      record {
        number = h.number;
        inside = omega (arith, h.inside);
        from = o.from_old _ h.inside ∙ h.from;
        to = o.to_old _ h.inside ∙ h.to;
        time = o.time_old _ h.inside ∙ h.time;
      }

  pub edge_stood : {a b t : ℕ} (h : EdgeIn T' a b t) → h.number < nd T → EdgeIn T a b t
  edge_stood h l =
      record {
        number = h.number;
        inside = l;
        from = sym (o.from_old _ l) ∙ h.from;
        to = sym (o.to_old _ l) ∙ h.to;
        time = sym (o.time_old _ l) ∙ h.time;
      }

  pub prev_stands : nv T ≤ nv T' → {a b : ℕ} → PrevIn T a b → PrevIn T' a b
  prev_stands m h =
      record {
        inside = omega (arith, h.inside);
        some = λ q. h.some (sym (o.previous_old _ h.inside) ∙ q);
        is = o.previous_old _ h.inside ∙ h.is;
      }

  pub prev_stood : {a b : ℕ} (h : PrevIn T' a b) → b < nv T → PrevIn T a b
  prev_stood h l = record { inside = l; some = λ q. h.some (o.previous_old _ l ∙ q); is = sym (o.previous_old _ l) ∙ h.is }

-- a declaration
pub record Declared (T T' : Trail) : Type 0 where
  pub row : Declares T T'
  pub owner_old : (a : ℕ) → a < nv T → owner_of T' a ≡ owner_of T a
  pub start_old : (a : ℕ) → a < nv T → start_time T' a ≡ start_time T a
  pub edge-old : {a b t : ℕ} → EdgeIn T a b t → EdgeIn T' a b t
  pub edge_inv : {a b t : ℕ} → EdgeIn T' a b t → EdgeIn T a b t
  pub prev_old : {a b : ℕ} → PrevIn T a b → PrevIn T' a b
  pub prev_inv : {a b : ℕ} → PrevIn T' a b → PrevIn T a b
  pub version_inv : (a : ℕ) → a < nv T' → OldVersion T a
  pub entity_inv : (x : ℕ) → x < ne T' → OldEntity T x

pub declared_facts : {T T' : Trail} → Declares T T' → Declared T T'
declared_facts {T} {T'} d =
    record {
      row = d;
      owner_old = d.old.owner_old;
      start_old = d.old.start_old;
      edge-old = edge_stands d.old (omega (arith, d.nd_is));
      edge_inv = λ h. edge_stood d.old h (omega (arith, h.inside, d.nd_is));
      prev_old = prev_stands d.old (omega (arith, d.nv_is));
      prev_inv = λ h. back h (below _ _ _ d.nv_is h.inside);
      version_inv = λ a h. below _ _ a d.nv_is h;
      entity_inv = λ x h. below _ _ x d.ne_is h;
    }
  where
    back : {a b : ℕ} → PrevIn T' a b → OldVersion T b → PrevIn T a b
    back h (inl k) = prev_stood d.old h k
    back {b = b} h (inr q) = absurd (h.some (rw q d.previous_new))
