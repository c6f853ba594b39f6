-- What holds of the rows in use of every grown trail; a declaration keeps it.
use Prim.Native.Nat.{ℕ, ◌≤◌, ◌<◌}
use native.Mathlib.Omega.{arith}
use mathlib.Core.Path.{◌≡◌, sym, ◌∙◌, ap}
use mathlib.Core.Logic.{inl, inr}
use Rattle.rules.specs.Trail.{Trail, latest_of, owner_of}
use Rattle.causality.specs.Working.{ne, nv, nd, start_time, EdgeIn, PrevIn}
use Rattle.causality.proofs.Declared.{OldVersion, OldEntity, Declared}

pub record Inv (T : Trail) (last : ℕ) : Type 0 where
  pub latest_in : (y : ℕ) → y < ne T → latest_of T y < nv T
  pub latest_owner : (y : ℕ) → y < ne T → owner_of T (latest_of T y) ≡ y
  pub owner_in : (a : ℕ) → a < nv T → owner_of T a < ne T
  pub start_in : (a : ℕ) → a < nv T → start_time T a ≤ last
  pub from_in : {a b t : ℕ} → EdgeIn T a b t → a < nv T
  pub to_in : {a b t : ℕ} → EdgeIn T a b t → b < nv T
  pub time_in : {a b t : ℕ} → EdgeIn T a b t → t ≤ last
  pub prev_less : {a b : ℕ} → PrevIn T a b → a < b
  pub prev_owner : {a b : ℕ} → PrevIn T a b → owner_of T a ≡ owner_of T b
  pub prev_start : {a b : ℕ} → PrevIn T a b → start_time T a ≤ start_time T b
  pub prev_later : {a b : ℕ} → PrevIn T a b → 0 < start_time T b
  -- the latest version is the previous of none
  pub top : (y : ℕ) → y < ne T → {b : ℕ} → PrevIn T (latest_of T y) b → ⊥

pub prev_in : {T : Trail} {last a b : ℕ} → Inv T last → PrevIn T a b → a < nv T
prev_in i p = omega (arith, i.prev_less p, p.inside)

pub inv_begun : {T : Trail} → ne T ≡ 0 → nv T ≡ 0 → nd T ≡ 0 → Inv T 0
inv_begun e v d =
    record {
      latest_in = λ y h. absurd (omega arith);
      latest_owner = λ y h. absurd (omega arith);
      owner_in = λ a h. absurd (omega arith);
      start_in = λ a h. absurd (omega arith);
      from_in = λ h. absurd (omega (arith, h.inside));
      to_in = λ h. absurd (omega (arith, h.inside));
      time_in = λ h. absurd (omega (arith, h.inside));
      prev_less = λ h. absurd (omega (arith, h.inside));
      prev_owner = λ h. absurd (omega (arith, h.inside));
      prev_start = λ h. absurd (omega (arith, h.inside));
      prev_later = λ h. absurd (omega (arith, h.inside));
      top = λ y h p. absurd (omega arith);
    }

pub inv_later : {T : Trail} {l : ℕ} (m : ℕ) → l ≤ m → Inv T l → Inv T m
inv_later m h i =
    record {
      latest_in = i.latest_in;
      latest_owner = i.latest_owner;
      owner_in = i.owner_in;
      start_in = λ a k. omega (arith, i.start_in a k);
      from_in = i.from_in;
      to_in = i.to_in;
      time_in = λ k. omega (arith, i.time_in k);
      prev_less = i.prev_less;
      prev_owner = i.prev_owner;
      prev_start = i.prev_start;
      prev_later = i.prev_later;
      top = i.top;
    }

-- a declaration
module _ {T T' : Trail} {last : ℕ} (i : Inv T last) (d : Declared T T') where
  decl_latest_in : (y : ℕ) → OldEntity T y → latest_of T' y < nv T'
  decl_latest_in y (inl k) = omega (arith, d.row.latest_old y k, i.latest_in y k, d.row.nv_is)
  decl_latest_in y (inr q) = rw q (omega (arith, d.row.latest_new, d.row.nv_is))

  decl_latest_owner : (y : ℕ) → OldEntity T y → owner_of T' (latest_of T' y) ≡ y
  decl_latest_owner y (inl k) = ap (owner_of T') (d.row.latest_old y k) ∙ d.owner_old _ (i.latest_in y k) ∙ i.latest_owner y k
  decl_latest_owner y (inr q) = ap (λ z. owner_of T' (latest_of T' z)) q ∙ ap (owner_of T') d.row.latest_new ∙ d.row.owner_new ∙ sym q

  decl_owner_in : (a : ℕ) → OldVersion T a → owner_of T' a < ne T'
  decl_owner_in a (inl k) = omega (arith, d.owner_old a k, i.owner_in a k, d.row.ne_is)
  decl_owner_in a (inr q) = rw q (omega (arith, d.row.owner_new, d.row.ne_is))

  decl_start_in : (a : ℕ) → OldVersion T a → start_time T' a ≤ last
  decl_start_in a (inl k) = omega (arith, d.start_old a k, i.start_in a k)
  decl_start_in a (inr q) = rw q (omega (arith, d.row.start_new))

  decl_top : (y : ℕ) → OldEntity T y → {b : ℕ} → PrevIn T (latest_of T' y) b → ⊥
  decl_top y (inl k) p = i.top y k (rw (d.row.latest_old y k) at p)
  decl_top y (inr q) p = omega (arith, i.prev_less p, p.inside, d.row.latest_new, ap (latest_of T') q)

  pub inv_declared : Inv T' last
  inv_declared =
      record {
        latest_in = λ y h. decl_latest_in y (d.entity_inv y h);
        latest_owner = λ y h. decl_latest_owner y (d.entity_inv y h);
        owner_in = λ a h. decl_owner_in a (d.version_inv a h);
        start_in = λ a h. decl_start_in a (d.version_inv a h);
        from_in = λ h. omega (arith, i.from_in (d.edge_inv h), d.row.nv_is);
        to_in = λ h. omega (arith, i.to_in (d.edge_inv h), d.row.nv_is);
        time_in = λ h. i.time_in (d.edge_inv h);
        prev_less = λ h. i.prev_less (d.prev_inv h);
        prev_owner = λ h. let p = d.prev_inv h in d.owner_old _ (prev_in i p) ∙ i.prev_owner p ∙ sym (d.owner_old _ p.inside);
        prev_start = λ h. let p = d.prev_inv h in omega (arith, d.start_old _ (prev_in i p), i.prev_start p, d.start_old _ p.inside);
        prev_later = λ h. let p = d.prev_inv h in omega (arith, i.prev_later p, d.start_old _ p.inside);
        top = λ y h p. decl_top y (d.entity_inv y h) (d.prev_inv p);
      }
