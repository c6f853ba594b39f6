-- The sum of a number of each row, also after one row was written.
use Prim.Native.Nat.{ℕ, zero, suc, ◌+◌, ◌≤◌, ◌<◌}
use native.Mathlib.Omega.{arith}
use native.Mathlib.Numerals.{add-one}
use native.Mathlib.Decide.{ℕ_discrete}
use mathlib.Core.Path.{◌≡◌, refl, ◌∙◌, ap}
use Rattle.rules.specs.Sound.{sum_below}
use Rattle.rules.specs.PlainList.{put}
use Rattle.soundness.proofs.Put.{put_same, put_other}

module _ {A : Type 0} (f : A → ℕ) where
  pub sum_zero : (R : ℕ → A) → 0 ≡ sum_below f R 0
  unfolding sum_below
  sum_zero R = refl

  pub sum_suc : (R : ℕ → A) (n : ℕ) → sum_below f R (suc n) ≡ sum_below f R n + f (R n)
  unfolding sum_below
  sum_suc R n = refl

  pub sum_same : (R R' : ℕ → A) (n : ℕ) → ((k : ℕ) → k < n → f (R k) ≡ f (R' k)) → sum_below f R n ≡ sum_below f R' n
  unfolding sum_below
  sum_same R R' zero h = refl
  sum_same R R' (suc n) h = λ i. sum_same R R' n (λ k l. h k (omega arith)) i + h n (omega arith) i

  -- each number is at most the sum
  pub sum_at : (R : ℕ → A) (n k : ℕ) → k < n → f (R k) ≤ sum_below f R n
  unfolding sum_below
  sum_at R zero k l = absurd (omega arith)
  sum_at R (suc n) k l = go (ℕ_discrete k n) (λ h. sum_at R n k h)
    where
      go : Dec (k ≡ n) → (k < n → f (R k) ≤ sum_below f R n) → f (R k) ≤ sum_below f R n + f (R n)
      go (yes q) ih = let e = ap (λ (j : ℕ). f (R j)) q in omega arith
      go (no q) ih = let h = ih (omega arith) in omega arith

  -- it does not fall
  pub sum_le : (R : ℕ → A) (m n : ℕ) → m ≤ n → sum_below f R m ≤ sum_below f R n
  unfolding sum_below
  sum_le R zero zero l = omega arith
  sum_le R (suc m) zero l = absurd (omega arith)
  sum_le R m (suc n) l = go (ℕ_discrete m (suc n)) (λ h. sum_le R m n h)
    where
      go : Dec (m ≡ suc n) → (m ≤ n → sum_below f R m ≤ sum_below f R n) → sum_below f R m ≤ sum_below f R n + f (R n)
      go (yes e) ih = let q : sum_below f R m ≡ sum_below f R (suc n) = ap (sum_below f R) e in omega arith
      go (no e) ih = omega (arith, ih (omega arith))

  -- of numbers up to 1
  pub sum_most : (R : ℕ → A) → ((r : A) → f r ≤ 1) → (n : ℕ) → sum_below f R n ≤ n
  unfolding sum_below
  sum_most R h zero = omega arith
  sum_most R h (suc n) = omega (arith, sum_most R h n, h (R n))

  module _ (R : ℕ → A) (k : ℕ) (r : A) where
    below : (n : ℕ) → n ≤ k → sum_below f (put R k r) n ≡ sum_below f R n
    below n h = sum_same (put R k r) R n (λ j l. ap f (put_other R k r j (λ q. omega arith)))

    pub sum_put : (n : ℕ) → k < n → sum_below f (put R k r) n + f (R k) ≡ sum_below f R n + f r
    unfolding sum_below
    sum_put zero l = absurd (omega arith)
    sum_put (suc n) l = go (ℕ_discrete n k) (λ h. sum_put n h)
      where
        go : Dec (n ≡ k) → (k < n → sum_below f (put R k r) n + f (R k) ≡ sum_below f R n + f r)
            → sum_below f (put R k r) n + f (put R k r n) + f (R k) ≡ sum_below f R n + f (R n) + f r
        go (yes e) ih =
            let a = below n (omega arith) in
            let b = ap (λ (j : ℕ). f (put R k r j)) e ∙ ap f (put_same R k r) in
            let c = ap (λ (j : ℕ). f (R j)) e in
            omega arith
        go (no e) ih =
            let a = ih (omega arith) in
            let b = ap f (put_other R k r n e) in
            omega arith

    -- one row more
    pub sum_next : sum_below f (put R k r) (k + 1) ≡ sum_below f R k + f r
    unfolding sum_below
    sum_next =
        let a = below k (omega arith) in
        let b : f (put R k r k) ≡ f r = ap f (put_same R k r) in
        rw (add-one k) (omega arith)
