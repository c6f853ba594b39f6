-- The least of a number and of what a function gives for a set: with a number less in the set.
use Rattle.std.proofs.Common.{ℕ, min, ◌≤◌, ◌≡◌, refl, ◌∙◌, subst, ◌⊎◌, inl, inr, arith}
use native.Mathlib.Decide.{dec_le}
use Rattle.intake.specs.Intake.{Least}

-- of an empty set
pub least_empty : (P : ℕ → Type 0) (f : ℕ → ℕ) (b : ℕ) → ((v : ℕ) → P v → ⊥) → Least P f b b
least_empty P f b none = record { below = omega arith; least = (λ v p. absurd (none v p)); is_one = inl refl }

module _ (P Q : ℕ → Type 0) (f g : ℕ → ℕ) (b r : ℕ) (out : (v : ℕ) → Q v → P v) (same : (v : ℕ) → Q v → f v ≡ g v) where
  found : (c : ℕ) → (r ≡ c → (r ≡ b) ⊎ ((v : ℕ) × P v × (r ≡ g v))) → (r ≡ c) ⊎ ((v : ℕ) × Q v × (r ≡ f v)) → (r ≡ b) ⊎ ((v : ℕ) × P v × (r ≡ g v))
  found c k (inl e) = k e
  found c k (inr (v, q, e)) = inr (v, out v q, e ∙ same v q)

  pub least-same : ((v : ℕ) → P v → Q v) → Least Q f b r → Least P g b r
  least-same into o = record {
    below = o.below;
    least = (λ v p. subst (λ x. r ≤ x) (same v (into v p)) (o.least v (into v p)));
    is_one = found b (λ e. inl e) o.is_one;
  }

  -- P has x besides
  pub least_more : (x : ℕ) → P x → ((v : ℕ) → P v → (v ≡ x) ⊎ Q v) → Least Q f (min b (g x)) r → Least P g b r
  least_more x p parts o = record { below = omega (arith, o.below); least = (λ v k. low v (parts v k)); is_one = found (min b (g x)) (λ e. pick e (dec_le b (g x))) o.is_one }
    where
      low : (v : ℕ) → (v ≡ x) ⊎ Q v → r ≤ g v
      low v (inl e) = rw e (omega (arith, o.below))
      low v (inr q) = subst (λ y. r ≤ y) (same v q) (o.least v q)

      pick : r ≡ min b (g x) → Dec (b ≤ g x) → (r ≡ b) ⊎ ((v : ℕ) × P v × (r ≡ g v))
      pick e (yes l) = inl (omega arith)
      pick e (no l) = inr (x, p, omega arith)
