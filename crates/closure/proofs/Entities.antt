-- The mark buffer (document 01, "Traces"): 1 for each entity with a marked version, else 0.
use Prim.Native.Nat.{ℕ, zero, suc, ◌<◌}
use native.Mathlib.Omega.{arith}
use native.Mathlib.Decide.{ℕ_discrete}
use mathlib.Core.Path.{◌≡◌, refl, sym, ◌∙◌, ap, subst}
use mathlib.Core.Logic.{◌⊎◌, inl, inr, ◌↔◌}
use mathlib.Core.Bool.{Bool, true, false, ◌&&◌, ◌||◌, cond, or-true}
use mathlib.Core.List.{List, [], ◌∷◌, ◌++◌}
use lib.ListN.{length, get_or, set, replicate, length-append, length-set, length-replicate, get_or-append}
use lib.Seq.{get_or_at}
use lib.Dec.{eqb}
use borrow.Author.Tests.{eqb-true, eq-eqb}
use Rattle.rows.specs.declared.VersionRow.{VersionRow}
use Rattle.rows.proofs.Stores.{get_or_zeros}
use Rattle.rules.specs.Marks.{has_marked, marks_below}
use Rattle.closure.specs.Arcs.{Marked, Bits}
use Rattle.closure.proofs.Marks.{bits_zeros, marked_set_cases, marked_set, marked_set_same, bits_set, bits_past, marks_ext}

module _ (W : ℕ → VersionRow) (work : List ℕ) where
  -- entity x has a marked version among the first n
  abbrev pub HasMarked : ℕ → ℕ → Type 0
  HasMarked n x = (k : ℕ) × (k < n) × Marked work k × ((W k).entity.0 ≡ x)

  later : {n x : ℕ} → HasMarked n x → HasMarked (suc n) x
  later (k, l, o, e) = (k, omega arith, o, e)

  marked_has : (x n : ℕ) → has_marked W work x n ≡ true → HasMarked n x
  unfolding has_marked
  marked_has x zero q = absurd (let z : ◌≡◌ {A = ℕ} 0 1 = cc in omega arith)
  marked_has x (suc k) q = go (eqb (W k).entity.0 x) (eqb (get_or work k 0) 1) refl refl q (λ z. marked_has x k z)
    where
      go : (a b : Bool) → eqb (W k).entity.0 x ≡ a → eqb (get_or work k 0) 1 ≡ b → (a && b || has_marked W work x k) ≡ true → (has_marked W work x k ≡ true → HasMarked k x) → HasMarked (suc k) x
      go true true p o z ih = (k, omega arith, eqb-true _ _ o, eqb-true _ _ p)
      go true false p o z ih = later (ih z)
      go false b p o z ih = later (ih z)

  has_marked_lem : (x n k : ℕ) → k < n → Marked work k → (W k).entity.0 ≡ x → has_marked W work x n ≡ true
  unfolding has_marked
  has_marked_lem x zero k l o e = absurd (omega arith)
  has_marked_lem x (suc n) k l o e = go (ℕ_discrete k n) (λ h. has_marked_lem x n k h o e)
    where
      go : Dec (k ≡ n) → (k < n → has_marked W work x n ≡ true) → (eqb (W n).entity.0 x && eqb (get_or work n 0) 1 || has_marked W work x n) ≡ true
      go (yes q) ih = rw (← q, eq-eqb _ _ e, eq-eqb _ _ o)
      go (no q) ih = rw (ih (omega arith)) (or-true (eqb (W n).entity.0 x && eqb (get_or work n 0) 1))

  module _ (n : ℕ) where
    pub length-marks_below : (m : ℕ) → length (marks_below W work n m) ≡ m
    unfolding marks_below
    length-marks_below zero = refl
    length-marks_below (suc x) = length-append (marks_below W work n x) _ ∙ omega (arith, length-marks_below x)

    get_or-marks_below : (m x : ℕ) → x < m → get_or (marks_below W work n m) x 0 ≡ cond (has_marked W work x n) 1 0
    unfolding marks_below
    get_or-marks_below zero x l = absurd (omega arith)
    get_or-marks_below (suc m) x l = go (ℕ_discrete x m) (λ h. get_or-marks_below m x h)
      where
        go : Dec (x ≡ m) → (x < m → get_or (marks_below W work n m) x 0 ≡ cond (has_marked W work x n) 1 0)
            → get_or (marks_below W work n m ++ (cond (has_marked W work m n) 1 0 ∷ [])) x 0 ≡ cond (has_marked W work x n) 1 0
        go (yes q) ih = rw q (get_or_at (marks_below W work n m) _ [] 0 m (length-marks_below m))
        go (no q) ih = get_or-append (marks_below W work n m) _ 0 x (omega (arith, length-marks_below m)) ∙ ih (omega arith)

    module _ (m : ℕ) where
      pub bits_marks_below : Bits (marks_below W work n m)
      bits_marks_below = bits_past (marks_below W work n m) (λ x l. go x (has_marked W work x n) (get_or-marks_below m x (omega (arith, length-marks_below m))))
        where
          go : (x : ℕ) (b : Bool) → get_or (marks_below W work n m) x 0 ≡ cond b 1 0 → (get_or (marks_below W work n m) x 0 ≡ 0) ⊎ Marked (marks_below W work n m) x
          go x true q = inr q
          go x false q = inl q

      pub marks_below_iff : (x : ℕ) → x < m → get_or (marks_below W work n m) x 0 ≡ 1 ↔ ((k : ℕ) × (k < n) × Marked work k × ((W k).entity.0 ≡ x))
      marks_below_iff x l =
          (λ o. go (has_marked W work x n) refl (sym (get_or-marks_below m x l) ∙ o), λ z. get_or-marks_below m x l ∙ ap (λ b. cond b 1 0) (has_marked_lem x n z.0 z.1 z.2 z.3))
        where
          go : (b : Bool) → has_marked W work x n ≡ b → ◌≡◌ {A = ℕ} (cond b 1 0) 1 → HasMarked n x
          go true q z = marked_has x n q
          go false q z = absurd (omega arith)

      -- no other list of marks marks these entities and no more
      pub marks_below_unique : (marks : List ℕ) → length marks ≡ m → Bits marks → ((x : ℕ) → x < m → Marked marks x ↔ HasMarked n x) → marks ≡ marks_below W work n m
      marks_below_unique marks l b e =
          marks_ext marks (marks_below W work n m) (l ∙ sym (length-marks_below m)) b bits_marks_below
          (λ x h. let i = marks_below_iff x (omega arith) in (λ o. i.1 ((e x (omega arith)).0 o), λ o. (e x (omega arith)).1 (i.0 o)))

  -- the buffer, version by version
  pub marks_below_zero : (m : ℕ) → replicate m 0 ≡ marks_below W work 0 m
  marks_below_zero m =
      marks_below_unique 0 m (replicate m 0) (length-replicate {A = ℕ} m 0) (bits_zeros m)
      (λ x l. (λ o. absurd (omega (arith, get_or_zeros m x)), λ z. absurd (omega (arith, z.1))))

  last_has : {n x : ℕ} → HasMarked (suc n) x → HasMarked n x ⊎ (Marked work n × ((W n).entity.0 ≡ x))
  last_has {n} {x} (k, l, o, e) = go (ℕ_discrete k n)
    where
      go : Dec (k ≡ n) → HasMarked n x ⊎ (Marked work n × ((W n).entity.0 ≡ x))
      go (yes q) = inr (subst (Marked work) q o, subst (λ j. (W j).entity.0 ≡ x) q e)
      go (no q) = inl (k, omega arith, o, e)

  pub marks_below_marked : (n m : ℕ) → Marked work n → set (marks_below W work n m) (W n).entity.0 1 ≡ marks_below W work (suc n) m
  marks_below_marked n m o =
      marks_below_unique (suc n) m (set (marks_below W work n m) (W n).entity.0 1) (length-set (marks_below W work n m) _ _ ∙ length-marks_below n m)
      (bits_set (marks_below W work n m) (W n).entity.0 (bits_marks_below n m)) (λ x l. (λ z. to x l (marked_set_cases (marks_below W work n m) _ x z), λ z. from x l (last_has z)))
    where
      to : (x : ℕ) → x < m → Marked (marks_below W work n m) x ⊎ (x ≡ (W n).entity.0) → HasMarked (suc n) x
      to x l (inl z) = later ((marks_below_iff n m x l).0 z)
      to x l (inr q) = (n, omega arith, o, sym q)

      from : (x : ℕ) → x < m → HasMarked n x ⊎ (Marked work n × ((W n).entity.0 ≡ x)) → Marked (set (marks_below W work n m) (W n).entity.0 1) x
      from x l (inl z) = marked_set (marks_below W work n m) (W n).entity.0 x ((marks_below_iff n m x l).1 z)
      from x l (inr z) = rw z.1 (marked_set_same (marks_below W work n m) x (omega (arith, length-marks_below n m)))

  pub marks_below-other : (n m : ℕ) → (Marked work n → ⊥) → marks_below W work n m ≡ marks_below W work (suc n) m
  marks_below-other n m h =
      marks_below_unique (suc n) m (marks_below W work n m) (length-marks_below n m) (bits_marks_below n m)
      (λ x l. (λ z. later ((marks_below_iff n m x l).0 z), λ z. (marks_below_iff n m x l).1 (go x (last_has z))))
    where
      go : (x : ℕ) → HasMarked n x ⊎ (Marked work n × ((W n).entity.0 ≡ x)) → HasMarked n x
      go x (inl z) = z
      go x (inr z) = absurd (h z.0)
