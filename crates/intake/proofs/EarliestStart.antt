-- The loop over the starts of the versions still marked: it stands at v.
use Rattle.std.proofs.Common.{ℕ, ◌+◌, ◌≤◌, ◌≡◌, min, refl, ◌∙◌, ap, subst, ◌⊎◌, inl, inr, Bool, true, false, cond, List, length, get_or, eqb, arith}
use native.Mathlib.Decide.{ℕ_discrete}
use borrow.Author.Tests.{eqb-true, eqb-false}
use Rattle.rows.specs.declared.VersionRow.{VersionRow}
use Rattle.closure.specs.Arcs.{Marked}
use Rattle.closure.proofs.Marks.{marked_in}
use Rattle.intake.specs.Intake.{Least, LeastStart}
use Rattle.intake.proofs.Least.{least_empty, least-same, least_more}

-- marked, and not passed
abbrev From : List ℕ → ℕ → ℕ → Type 0
From m v w = (v ≤ w) × Marked m w

-- what is the least with b of those not passed is the least of all
pub record Starts (W : ℕ → VersionRow) (m : List ℕ) (b₀ v b : ℕ) : Type 0 where
  pub rest : (r : ℕ) → Least (From m v) (λ w. (W w).start) b r → LeastStart W m b₀ r

pub starts_begin : (W : ℕ → VersionRow) (m : List ℕ) (b : ℕ) → Starts W m b 0 b
starts_begin W m b = record { rest = (λ r o. least-same (Marked m) (From m 0) _ _ b r (λ w p. p.1) (λ w p. refl) (λ w p. (omega arith, p)) o) }

module _ (W : ℕ → VersionRow) (m : List ℕ) (b₀ v b : ℕ) (i : Starts W m b₀ v b) where
  step : (b' : ℕ) → b' ≡ cond (eqb (get_or m v 0) 1) (min b (W v).start) b → Starts W m b₀ (v + 1) b'
  step b' e = record { rest = (λ r o. i.rest r (go (eqb (get_or m v 0) 1) refl r (subst (λ x. Least (From m (v + 1)) (λ w. (W w).start) x r) e o))) }
    where
      back : (w : ℕ) → From m (v + 1) w → From m v w
      back w p = (omega (arith, p.0), p.1)

      go : (q : Bool) → eqb (get_or m v 0) 1 ≡ q → (r : ℕ) → Least (From m (v + 1)) (λ w. (W w).start) (cond q (min b (W v).start) b) r
          → Least (From m v) (λ w. (W w).start) b r
      go true z r o = least_more (From m v) (From m (v + 1)) _ _ b r back (λ w p. refl) v (omega arith, eqb-true _ _ z) (λ w p. part w p (ℕ_discrete w v)) o
        where
          part : (w : ℕ) → From m v w → Dec (w ≡ v) → (w ≡ v) ⊎ From m (v + 1) w
          part w p (yes h) = inl h
          part w p (no h) = inr (omega (arith, p.0), p.1)
      go false z r o = least-same (From m v) (From m (v + 1)) _ _ b r back (λ w p. refl) (λ w p. into w p (ℕ_discrete w v)) o
        where
          into : (w : ℕ) → From m v w → Dec (w ≡ v) → From m (v + 1) w
          into w p (yes h) = absurd (eqb-false _ _ z (subst (Marked m) h p.1))
          into w p (no h) = (omega (arith, p.0), p.1)

  -- version v is marked, or is not
  module _ (r b' : ℕ) (z : b' ≡ r) (q : Bool) (p : q ≡ eqb (get_or m v 0) 1) where
    pub starts_marked : q ≡ true → (row : VersionRow) → row ≡ W v → r ≡ min b row.start → Starts W m b₀ (v + 1) b'
    starts_marked h row e x = step b' (rw (← p, h) (z ∙ x ∙ ap (λ (w : VersionRow). min b w.start) e))

    pub starts_other : q ≡ false → r ≡ b → Starts W m b₀ (v + 1) b'
    starts_other h x = step b' (rw (← p, h) (z ∙ x))

  pub starts_end : (n : ℕ) → n ≡ length m → n ≤ v → LeastStart W m b₀ b
  starts_end n l h = i.rest b (least_empty (From m v) _ b (λ w p. omega (arith, p.0, marked_in m w p.1)))
