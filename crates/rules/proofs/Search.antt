-- The search for a repeat from the newest edge (document 02, 2.3): what it finds is the edge that the event repeats, and what it tries is
-- counted from there.
use Rattle.std.specs.Prelude.{Some, None}
use Prim.Native.Nat.{ℕ, zero, suc, ◌<◌}
use native.Mathlib.Omega.{arith}
use mathlib.Core.Path.{◌≡◌, refl, sym, ◌∙◌, ap}
use mathlib.Core.Logic.{◌⊎◌, inl, inr}
use mathlib.Core.Bool.{Bool, true, false, ◌&&◌}
use lib.Dec.{eqb}
use borrow.Author.Tests.{eqb-true, eqb-false}
use Rattle.rows.specs.declared.EdgeNo.{EdgeNo}
use Rattle.rules.specs.Decide.{Found}
use Rattle.rules.specs.Trail.{Trail, owner_of}
use Rattle.rules.specs.Decide.{edge_no, goes_to, newest_to}
use Rattle.rules.specs.Record.{to_hit}
use Rattle.rules.specs.Search.{Hit, Search, none_left, stopped, went_on}

module _ (T : Trail) (f x : ℕ) where
  abbrev found : ℕ → Found
  found n = newest_to T.edge T.version f x n

  abbrev HitCase : ℕ → Type 0
  HitCase k = (Hit T f x k × (goes_to T.edge T.version f x k ≡ true)) ⊎ ((Hit T f x k → ⊥) × (goes_to T.edge T.version f x k ≡ false))

  hit_case : (k : ℕ) → HitCase k
  unfolding goes_to
  hit_case k = go (eqb (T.edge k).from.0 f) refl (eqb (owner_of T (T.edge k).to.0) x) refl
    where
      go : (a : Bool) → eqb (T.edge k).from.0 f ≡ a → (b : Bool) → eqb (owner_of T (T.edge k).to.0) x ≡ b
          → (Hit T f x k × ((a && b) ≡ true)) ⊎ ((Hit T f x k → ⊥) × ((a && b) ≡ false))
      go true p true q = inl (record { leaves = eqb-true _ _ p; enters = eqb-true _ _ q }, refl)
      go true p false q = inr ((λ h. eqb-false _ _ q h.enters), refl)
      go false p b q = inr ((λ h. eqb-false _ _ p h.leaves), refl)

  found_none : found zero ≡ None
  unfolding newest_to
  found_none = refl

  found_hit : (k : ℕ) → goes_to T.edge T.version f x k ≡ true → found (suc k) ≡ Some (edge_no k)
  unfolding newest_to
  found_hit k q = rw q

  found_missed : (k : ℕ) → goes_to T.edge T.version f x k ≡ false → found (suc k) ≡ found k
  unfolding newest_to
  found_missed k q = rw q

  -- the hit is one of the edges
  found_below : (n : ℕ) (k : EdgeNo) → found n ≡ Some k → k.0 < n
  found_below zero k p = let q = sym found_none ∙ p in absurd (let z : ◌≡◌ {A = ℕ} 0 1 = cc in omega arith)
  found_below (suc n) k p = go (hit_case n) (found_below n k)
    where
      go : HitCase n → (found n ≡ Some k → k.0 < n) → k.0 < suc n
      go (inl (h, q)) b =
          let z = sym (found_hit n q) ∙ p in
          let e : edge_no n ≡ k = cc in
          let l = ap (λ (j : EdgeNo). j.0) e in
          omega arith
      go (inr (m, q)) b = omega (arith, b (sym (found_missed n q) ∙ p))

  tried_missed : (n : ℕ) → to_hit (suc n) (found n) ≡ suc (to_hit n (found n))
  tried_missed n = go (found n) (found_below n)
    where
      go : (r : Found) → ((k : EdgeNo) → r ≡ Some k → k.0 < n) → to_hit (suc n) r ≡ suc (to_hit n r)
      go (Some k) b = omega (arith, b k refl)
      go None b = refl

  tried_hit : (k : ℕ) → to_hit (suc k) (Some (edge_no k)) ≡ 1
  tried_hit k = omega arith

  pub search_ends : (n : ℕ) → Search T f x n (to_hit n (found n)) (found n)
  search_ends zero = rw found_none none_left
  search_ends (suc n) = go (hit_case n) (search_ends n)
    where
      go : HitCase n → Search T f x n (to_hit n (found n)) (found n) → Search T f x (suc n) (to_hit (suc n) (found (suc n))) (found (suc n))
      go (inl (h, q)) s = rw (found_hit n q, tried_hit n) (stopped h)
      go (inr (m, q)) s = rw (found_missed n q, tried_missed n) (went_on m s)

  pub search_only : {n tried : ℕ} {r : Found} → Search T f x n tried r → (tried ≡ to_hit n (found n)) × (r ≡ found n)
  search_only none_left = rw found_none (refl, refl)
  search_only (stopped {k} h) = go (hit_case k)
    where
      go : HitCase k → (1 ≡ to_hit (suc k) (found (suc k))) × (Some (edge_no k) ≡ found (suc k))
      go (inl (h', q)) = rw (found_hit k q, tried_hit k) (refl, refl)
      go (inr (m, q)) = absurd (m h)
  search_only (went_on {k} {tried} {found = r} m s) = go (hit_case k) (search_only s)
    where
      go : HitCase k → (tried ≡ to_hit k (found k)) × (r ≡ found k) → (suc tried ≡ to_hit (suc k) (found (suc k))) × (r ≡ found (suc k))
      go (inl (h, q)) z = absurd (m h)
      go (inr (m', q)) (a, b) = rw (found_missed k q, tried_missed k) (ap suc a, b)
