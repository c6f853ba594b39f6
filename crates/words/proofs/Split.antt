-- Where a run of bytes that pass a test ends at one that does not, the text tells the run and the rest.
use Prim.Native.Nat.{ℕ}
use native.Mathlib.Omega.{arith}
use mathlib.Core.Path.{◌≡◌, refl, sym, ◌∙◌, ap, ap₂}
use mathlib.Core.Bool.{Bool, true, false}
use mathlib.Core.List.{List, [], ◌∷◌, ◌++◌, head-eq_of_cons-eq, tail-eq_of_cons-eq}

abbrev pub All : (ℕ → Bool) → List ℕ → Type 0
All P [] = Unit {0}
All P (x ∷ xs) = (P x ≡ true) × All P xs

pub all-++ : (P : ℕ → Bool) (a b : List ℕ) → All P a → All P b → All P (a ++ b)
all-++ P [] b h k = k
all-++ P (x ∷ a) b h k = (h.0, all-++ P a b h.1 k)

-- what two equal texts tell: equal first parts and equal rests
pub record Told {A : Type 0} (a b : A) (r s : List ℕ) : Type 0 where
  pub same : a ≡ b
  pub rest : r ≡ s

never : (P : ℕ → Bool) (x y : ℕ) → P x ≡ true → P y ≡ false → x ≡ y → ⊥
never P x y h k e =
    let z : ◌≡◌ {A = Bool} true false = sym h ∙ (ap P e ∙ k) in
    let w : ◌≡◌ {A = ℕ} 0 1 = cc in
    omega arith

module _ (P : ℕ → Bool) {x y : ℕ} {r s : List ℕ} (p : P x ≡ false) (q : P y ≡ false) where
  pub split : (a b : List ℕ) → All P a → All P b → a ++ (x ∷ r) ≡ b ++ (y ∷ s) → Told a b (x ∷ r) (y ∷ s)
  split [] [] h k e = record { same = refl; rest = e }
  split [] (d ∷ b) h k e = absurd (never P d x k.0 p (sym (head-eq_of_cons-eq e)))
  split (c ∷ a) [] h k e = absurd (never P c y h.0 q (head-eq_of_cons-eq e))
  split (c ∷ a) (d ∷ b) h k e =
      let t = split a b h.1 k.1 (tail-eq_of_cons-eq e) in
      record { same = ap₂ (λ z zs. z ∷ zs) (head-eq_of_cons-eq e) t.same; rest = t.rest }
