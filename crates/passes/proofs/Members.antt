-- The arcs that a pass follows are those of document 01: an arc for each edge and for each version step.
use Prim.Native.Nat.{ℕ, zero, suc, ◌<◌}
use native.Mathlib.Omega.{arith}
use native.Mathlib.Decide.{ℕ_discrete}
use mathlib.Core.Path.{◌≡◌, refl, subst}
use mathlib.Core.Logic.{◌⊎◌, inl, inr, ◌↔◌}
use mathlib.Core.Bool.{Bool, true, false}
use mathlib.Core.List.Memᴰ
use mathlib.Core.List.{List, ◌++◌, Memᴰ}
use Rattle.rules.specs.Marks.{Arc}
use Rattle.closure.specs.Collected.{collected}
use Rattle.closure.proofs.Collected.{collected_iff}
use Rattle.passes.specs.Followed.{down, up}
use Rattle.passes.specs.TraceArcs.{when}

mem_when : (b : Bool) (a x : Arc) → Memᴰ x (when b a) → (b ≡ true) × (x ≡ a)
mem_when true a x k = (refl, Memᴰ.eq_of_singleton k)
mem_when false a x k = absurd (Memᴰ.not-nil k)

when_mem : (b : Bool) (a x : Arc) → b ≡ true → x ≡ a → Memᴰ x (when b a)
when_mem b a x p q = rw p (Memᴰ.head q)

-- a member of the arcs of one of the first n numbers
abbrev Among : (ℕ → List Arc) → ℕ → Arc → Type 0
Among A n x = (k : ℕ) × (k < n) × Memᴰ x (A k)

later : {A : ℕ → List Arc} {n : ℕ} {x : Arc} → Among A n x → Among A (suc n) x
later (k, l, m) = (k, omega arith, m)

module _ (A : ℕ → List Arc) (x : Arc) where
  among_cases : (n : ℕ) → Among A (suc n) x → Among A n x ⊎ Memᴰ x (A n)
  among_cases n (k, l, m) = go (ℕ_discrete k n)
    where
      go : Dec (k ≡ n) → Among A n x ⊎ Memᴰ x (A n)
      go (yes q) = inr (subst (λ j. Memᴰ x (A j)) q m)
      go (no q) = inl (k, omega arith, m)

  pub down_iff : (n : ℕ) → Memᴰ x (down A n) ↔ ((k : ℕ) × (k < n) × Memᴰ x (A k))
  unfolding down
  down_iff zero = (λ k. absurd (Memᴰ.not-nil k), λ z. absurd (omega (arith, z.1)))
  down_iff (suc n) = go (down_iff n)
    where
      go : Memᴰ x (down A n) ↔ Among A n x → Memᴰ x (A n ++ down A n) ↔ Among A (suc n) x
      go ih = (λ k. to (Memᴰ.append_cases (A n) k), λ z. from (among_cases n z))
        where
          to : Memᴰ x (A n) ⊎ Memᴰ x (down A n) → Among A (suc n) x
          to (inl k) = (n, omega arith, k)
          to (inr k) = later {A = A} (ih.0 k)

          from : Among A n x ⊎ Memᴰ x (A n) → Memᴰ x (A n ++ down A n)
          from (inl z) = Memᴰ.append_right (A n) (ih.1 z)
          from (inr k) = Memᴰ.append_left (down A n) k

  pub up_iff : (n : ℕ) → Memᴰ x (up A n) ↔ ((k : ℕ) × (k < n) × Memᴰ x (A k))
  unfolding up
  up_iff zero = (λ k. absurd (Memᴰ.not-nil k), λ z. absurd (omega (arith, z.1)))
  up_iff (suc n) = go (up_iff n)
    where
      go : Memᴰ x (up A n) ↔ Among A n x → Memᴰ x (up A n ++ A n) ↔ Among A (suc n) x
      go ih = (λ k. to (Memᴰ.append_cases (up A n) k), λ z. from (among_cases n z))
        where
          to : Memᴰ x (up A n) ⊎ Memᴰ x (A n) → Among A (suc n) x
          to (inl k) = later {A = A} (ih.0 k)
          to (inr k) = (n, omega arith, k)

          from : Among A n x ⊎ Memᴰ x (A n) → Memᴰ x (up A n ++ A n)
          from (inl z) = Memᴰ.append_left (A n) (ih.1 z)
          from (inr k) = Memᴰ.append_right (up A n) k

append_in : (x : Arc) (as' bs cs ds : List Arc) → (Memᴰ x as' → Memᴰ x cs) → (Memᴰ x bs → Memᴰ x ds) → Memᴰ x (as' ++ bs) → Memᴰ x (cs ++ ds)
append_in x as' bs cs ds f g m = go (Memᴰ.append_cases as' m)
  where
    go : Memᴰ x as' ⊎ Memᴰ x bs → Memᴰ x (cs ++ ds)
    go (inl k) = Memᴰ.append_left ds (f k)
    go (inr k) = Memᴰ.append_right cs (g k)

-- the list L of the arcs of the first numbers is in any order
module _
    (L : (ℕ → List Arc) → ℕ → List Arc)
    (L-iff : (A : ℕ → List Arc) (x : Arc) (n : ℕ) → Memᴰ x (L A n) ↔ ((k : ℕ) × (k < n) × Memᴰ x (A k)))
    (x : Arc)
  where
    -- a pass with more arcs at the edges has those of the pass without them
    pub with_more : (A B : ℕ → List Arc) (d : ℕ) (steps : List Arc) → Memᴰ x (L A d ++ steps) → Memᴰ x (L (λ k. A k ++ B k) d ++ steps)
    with_more A B d steps =
        append_in x (L A d) steps (L (λ k. A k ++ B k) d) steps (λ m. let z = (L-iff A x d).0 m in (L-iff (λ k. A k ++ B k) x d).1 (z.0, z.1, Memᴰ.append_left (B z.0) z.2))
        (λ m. m)

    -- one arc for each number that passes a test
    tested_iff : (p : ℕ → Bool) (g : ℕ → Arc) (n : ℕ) → Memᴰ x (L (λ k. when (p k) (g k)) n) ↔ Memᴰ x (collected p g n)
    tested_iff p g n = (
      λ m.
          let z = (L-iff (λ k. when (p k) (g k)) x n).0 m in
          let w = mem_when (p z.0) (g z.0) x z.2 in
          (collected_iff p g n x).1 (z.0, z.1, w.0, w.1),
      λ m. let z = (collected_iff p g n x).0 m in (L-iff (λ k. when (p k) (g k)) x n).1 (z.0, z.1, when_mem (p z.0) (g z.0) x z.2 z.3),
    )

    -- d edges, of which k gives an arc g k where p k holds and enters version e k, and n versions, of which v gives h v where
    -- o v holds
    module _ (p o : ℕ → Bool) (g h : ℕ → Arc) (d n : ℕ) (e : ℕ → ℕ) (entered : (k : ℕ) → k < d → e k < n) where
      abbrev step : ℕ → List Arc
      step v = when (o v) (h v)

      abbrev edge : ℕ → List Arc
      edge k = when (p k) (g k) ++ step (e k)

      abbrev Collected : Type 0
      Collected = Memᴰ x (collected p g d ++ collected o h n)

      of-edge : (k : ℕ) → k < d → Memᴰ x (when (p k) (g k)) ⊎ Memᴰ x (step (e k)) → Collected
      of-edge k l (inl m) = let z = mem_when (p k) (g k) x m in Memᴰ.append_left (collected o h n) ((collected_iff p g d x).1 (k, l, z.0, z.1))
      of-edge k l (inr m) = let z = mem_when (o (e k)) (h (e k)) x m in Memᴰ.append_right (collected p g d) ((collected_iff o h n x).1 (e k, entered k l, z.0, z.1))

      of_first : Memᴰ x (L edge d) ⊎ Memᴰ x (L step n) → Collected
      of_first (inl m) = let z = (L-iff edge x d).0 m in of-edge z.0 z.1 (Memᴰ.append_cases (when (p z.0) (g z.0)) z.2)
      of_first (inr m) = Memᴰ.append_right (collected p g d) ((tested_iff o h n).0 m)

      -- the first pass follows no others, each later one follows all
      pub arcs_of : (Memᴰ x (L (λ k. when (p k) (g k) ++ when (o (e k)) (h (e k))) d ++ L (λ v. when (o v) (h v)) n) → Memᴰ x (collected p g d ++ collected o h n))
          × (Memᴰ x (L (λ k. when (p k) (g k)) d ++ L (λ v. when (o v) (h v)) n) ↔ Memᴰ x (collected p g d ++ collected o h n))
      arcs_of =
          let i = tested_iff p g d in
          let j = tested_iff o h n in
          (λ m. of_first (Memᴰ.append_cases (L edge d) m), (append_in x _ _ _ _ i.0 j.0, append_in x _ _ _ _ i.1 j.1))
