-- A descending list is known by its members, so a count has one value.
use Prim.Native.Nat.{ℕ, ◌<◌}
use native.Mathlib.Omega.{arith}
use mathlib.Core.Path.{◌≡◌, refl, sym, ◌∙◌}
use mathlib.Core.Logic.Iff
use mathlib.Core.Logic.{◌⊎◌, inl, inr, ◌↔◌}
use mathlib.Core.List.Memᴰ
use mathlib.Core.List.{List, [], ◌∷◌, Memᴰ}
use lib.ListN.{length}
use Rattle.closure.specs.ByRelations.{Descending, CountOf}

abbrev SameMembers : List ℕ → List ℕ → Type 0
SameMembers xs ys = (z : ℕ) → Memᴰ z xs ↔ Memᴰ z ys

module _ (x y : ℕ) (xs ys : List ℕ) (d : Descending (x ∷ xs)) (e : Descending (y ∷ ys)) (s : SameMembers (x ∷ xs) (y ∷ ys)) where
  head_same : x ≡ y
  head_same = go (Memᴰ.cases_cons ((s x).0 (Memᴰ.head refl))) (Memᴰ.cases_cons ((s y).1 (Memᴰ.head refl)))
    where
      go : (x ≡ y) ⊎ Memᴰ x ys → (y ≡ x) ⊎ Memᴰ y xs → x ≡ y
      go (inl p) q = p
      go (inr m) (inl q) = sym q
      go (inr m) (inr n) = omega (arith, e.0 x m, d.0 y n)

  tail_same : SameMembers xs ys
  tail_same z =
      (λ m. below (d.0 z m) (Memᴰ.cases_cons ((s z).0 (Memᴰ.tail m))), λ m. above (e.0 z m) (Memᴰ.cases_cons ((s z).1 (Memᴰ.tail m))))
    where
      below : z < x → (z ≡ y) ⊎ Memᴰ z ys → Memᴰ z ys
      below l (inl q) = absurd (omega (arith, head_same))
      below l (inr m) = m

      above : z < y → (z ≡ x) ⊎ Memᴰ z xs → Memᴰ z xs
      above l (inl q) = absurd (omega (arith, head_same))
      above l (inr m) = m

descending_one : (xs ys : List ℕ) → Descending xs → Descending ys → SameMembers xs ys → length xs ≡ length ys
descending_one [] [] d e s = refl
descending_one [] (y ∷ ys) d e s = absurd (Memᴰ.not-nil ((s y).1 (Memᴰ.head refl)))
descending_one (x ∷ xs) [] d e s = absurd (Memᴰ.not-nil ((s x).0 (Memᴰ.head refl)))
descending_one (x ∷ xs) (y ∷ ys) d e s = omega (arith, descending_one xs ys d.1 e.1 (tail_same x y xs ys d e s))

pub count_one : {M : ℕ → Type 0} {m n : ℕ} → CountOf M m → CountOf M n → m ≡ n
count_one a b = a.count_is ∙ descending_one a.list b.list a.once b.once (λ z. Iff.trans (a.has z) (Iff.symm (b.has z))) ∙ sym b.count_is
