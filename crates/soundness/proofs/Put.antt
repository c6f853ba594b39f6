-- Rows by number after one of them was written.
use Prim.Native.Nat.{ℕ}
use mathlib.Core.Path.{◌≡◌, refl, sym, subst}
use mathlib.Core.Logic.{◌⊎◌, inl, inr}
use mathlib.Core.Bool.{Bool, true, false}
use lib.Dec.{eqb}
use borrow.Author.Tests.{eq-eqb, ne_eqb, eqb-true, eqb-false}
use Rattle.rules.specs.PlainList.{put}

module _ {A : Type 0} (f : ℕ → A) (k : ℕ) (r : A) where
  pub put_same : put f k r k ≡ r
  unfolding put
  put_same = rw (eq-eqb k k refl)

  pub put_other : (j : ℕ) → (j ≡ k → ⊥) → put f k r j ≡ f j
  unfolding put
  put_other j h = rw (ne_eqb j k h)

  -- what holds of the new row, and of every other
  pub put_each : (P : ℕ → A → Type 0) → P k r → ((j : ℕ) → (j ≡ k → ⊥) → P j (f j)) → (j : ℕ) → P j (put f k r j)
  put_each P new old j = go (eqb j k) refl
    where
      go : (b : Bool) → eqb j k ≡ b → P j (put f k r j)
      go true q = subst (λ (i : ℕ). P i (put f k r i)) (sym (eqb-true j k q)) (subst (P k) (sym put_same) new)
      go false q = let n = eqb-false j k q in subst (P j) (sym (put_other j n)) (old j n)

  pub put_cases : (j : ℕ) → (put f k r j ≡ r) ⊎ (put f k r j ≡ f j)
  put_cases = put_each (λ j x. (x ≡ r) ⊎ (x ≡ f j)) (inl refl) (λ j n. inr refl)

  -- what the new row has in common with the old
  pub put_keeps : {B : Type 0} (g : A → B) → g r ≡ g (f k) → (j : ℕ) → g (put f k r j) ≡ g (f j)
  put_keeps g e = put_each (λ j x. g x ≡ g (f j)) e (λ j n. refl)
