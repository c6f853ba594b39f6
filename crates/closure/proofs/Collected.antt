-- The members of a list that is collected over the numbers below a count; lists that agree below the count.
use Prim.Native.Nat.{ℕ, zero, suc, ◌<◌}
use native.Mathlib.Omega.{arith}
use native.Mathlib.Decide.{ℕ_discrete}
use mathlib.Core.Path.{◌≡◌, refl, ◌∙◌, ap, subst}
use mathlib.Core.Logic.{◌⊎◌, inl, inr, ◌↔◌}
use mathlib.Core.Bool.{Bool, true, false, cond}
use mathlib.Core.List.Memᴰ
use mathlib.Core.List.{◌∷◌, Memᴰ}
use Rattle.closure.specs.Collected.{collected}

module _ {A : Type 0} (p : ℕ → Bool) (g : ℕ → A) where
  -- one of the numbers below n gives a
  abbrev pub GivenBelow : ℕ → A → Type 0
  GivenBelow n a = (k : ℕ) × (k < n) × (p k ≡ true) × (a ≡ g k)

  mem_collected : (n : ℕ) (a : A) → Memᴰ a (collected p g n) → GivenBelow n a
  unfolding collected
  mem_collected zero a m = absurd (Memᴰ.not-nil m)
  mem_collected (suc n) a m = go (p n) refl m (λ z. mem_collected n a z)
    where
      later : GivenBelow n a → GivenBelow (suc n) a
      later (k, l, q, e) = (k, omega arith, q, e)

      now : p n ≡ true → (a ≡ g n) ⊎ Memᴰ a (collected p g n) → (Memᴰ a (collected p g n) → GivenBelow n a) → GivenBelow (suc n) a
      now q (inl e) ih = (n, omega arith, q, e)
      now q (inr z) ih = later (ih z)

      go : (b : Bool) → p n ≡ b → Memᴰ a (cond b (g n ∷ collected p g n) (collected p g n)) → (Memᴰ a (collected p g n) → GivenBelow n a) → GivenBelow (suc n) a
      go true q z ih = now q (Memᴰ.cases_cons z) ih
      go false q z ih = later (ih z)

  collected_mem : (n k : ℕ) (a : A) → k < n → p k ≡ true → a ≡ g k → Memᴰ a (collected p g n)
  unfolding collected
  collected_mem zero k a l q e = absurd (omega arith)
  collected_mem (suc n) k a l q e = go (ℕ_discrete k n) (λ h. collected_mem n k a h q e)
    where
      later : (b : Bool) → Memᴰ a (collected p g n) → Memᴰ a (cond b (g n ∷ collected p g n) (collected p g n))
      later true z = Memᴰ.tail z
      later false z = z

      go : Dec (k ≡ n) → (k < n → Memᴰ a (collected p g n)) → Memᴰ a (cond (p n) (g n ∷ collected p g n) (collected p g n))
      go (yes r) ih = rw (subst (λ i. p i ≡ true) r q) (Memᴰ.head (e ∙ ap g r))
      go (no r) ih = later (p n) (ih (omega arith))

  pub collected_iff : (n : ℕ) (a : A) → Memᴰ a (collected p g n) ↔ ((k : ℕ) × (k < n) × (p k ≡ true) × (a ≡ g k))
  collected_iff n a = (mem_collected n a, λ z. collected_mem n z.0 a z.1 z.2 z.3)
