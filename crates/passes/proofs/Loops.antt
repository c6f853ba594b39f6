-- The loops of a trace: a pass from the highest number down, one from the lowest up, and passes until one adds no mark.
use Prim.Native.Nat.{ℕ, suc, ◌+◌, ◌-◌, ◌≤◌, ◌<◌}
use native.Mathlib.Numerals.{add-one}
use native.Mathlib.Omega.{arith}
use mathlib.Core.Path.{◌≡◌, refl, sym, ◌∙◌, ap, subst}
use mathlib.Core.Bool.{Bool, false, ◌||◌, or-false, or_assoc}
use mathlib.Core.List.{List, [], ◌∷◌, Memᴰ}
use lib.ListN.{length, set, replicate}
use Rattle.rules.specs.Marks.{Arc, pass, passes, seeded}
use Rattle.passes.specs.Followed.{changes, Followed, down, up}
use Rattle.passes.proofs.Followed.{followed_none, pass-append, changes-append, followed_append, passes_still}

below : (k : ℕ) → 0 < k → k ≡ suc (k - 1)
below k l = omega arith

-- from the highest number down: of n numbers k are left, and the marks are m
pub record Descends (A : ℕ → List Arc) (n : ℕ) (m₀ : List ℕ) (k : ℕ) (c : Bool) (m : List ℕ) : Type 0 where
  pub marks : pass (down A k) m ≡ pass (down A n) m₀
  pub changed : (c || changes (down A k) m) ≡ changes (down A n) m₀

pub descends_start : (A : ℕ → List Arc) (n : ℕ) (m : List ℕ) → Descends A n m n false m
descends_start A n m = record { marks = refl; changed = refl }

module _ (A : ℕ → List Arc) (n : ℕ) (m₀ : List ℕ) (k : ℕ) (c : Bool) (m : List ℕ) (i : Descends A n m₀ k c m) where
  pub descends_next : 0 < k → (d e : Bool) (m' : List ℕ) → Followed (A (k - 1)) m d m' → e ≡ c || d → Descends A n m₀ (k - 1) e m'
  unfolding down
  descends_next l d e m' f q = go (k - 1) (below k l) f
    where
      go : (j : ℕ) → k ≡ suc j → Followed (A j) m d m' → Descends A n m₀ j e m'
      go j z g =
          let i' : Descends A n m₀ (suc j) c m = subst (λ x. Descends A n m₀ x c m) z i in
          record {
            marks = ap (pass (down A j)) g.marks ∙ sym (pass-append (A j) (down A j) m) ∙ i'.marks;
            changed =
                (λ x. q x || changes (down A j) (g.marks x))
                ∙ (λ x. (c || g.changed x) || changes (down A j) (pass (A j) m))
                ∙ or_assoc c (changes (A j) m) _
                ∙ ap (λ b. c || b) (sym (changes-append (A j) (down A j) m))
                ∙ i'.changed;
          }

  pub descends_end : k ≤ 0 → Followed (down A n) m₀ c m
  unfolding down
  descends_end l =
      let z : k ≡ 0 = omega arith in
      let i' : Descends A n m₀ 0 c m = subst (λ x. Descends A n m₀ x c m) z i in
      record { changed = sym (or-false c) ∙ ap (λ b. c || b) (followed_none m).changed ∙ i'.changed; marks = (followed_none m).marks ∙ i'.marks }

-- from the lowest number up: the first k are followed
pub ascends_start : (A : ℕ → List Arc) (m : List ℕ) → Followed (up A 0) m false m
unfolding up
ascends_start A m = followed_none m

module _ (A : ℕ → List Arc) (m₀ : List ℕ) (k : ℕ) (c : Bool) (m : List ℕ) (i : Followed (up A k) m₀ c m) where
  pub ascends_next : (d e : Bool) (m' : List ℕ) → Followed (A k) m d m' → e ≡ c || d → Followed (up A (k + 1)) m₀ e m'
  unfolding up
  ascends_next d e m' f q = rw (add-one k) (followed_append (up A k) (A k) m₀ m m' c d e i f q)

  pub ascends_end : (n : ℕ) → k ≤ n → n ≤ k → Followed (up A n) m₀ c m
  ascends_end n l h = let q : k ≡ n = omega arith in subst (λ j. Followed (up A j) m₀ c m) q i

-- a pass that adds no mark
adds_none : (arcs : List Arc) (m : List ℕ) (c : Bool) (m' : List ℕ) → Followed arcs m c m' → c ≡ false → m' ≡ m
unfolding passes
adds_none arcs m c m' f h = f.marks ∙ passes_still arcs m (sym f.changed ∙ h) arcs (λ a k. k) 1

-- passes, of which k of n are made
module _ (arcs : List Arc) (n k : ℕ) (m₀ m : List ℕ) (i : passes (n - k) arcs m ≡ passes n arcs m₀) where
  module _ (c : Bool) (m' : List ℕ) (f : Followed arcs m c m') where
    pub passes_next : k < n → passes (n - (k + 1)) arcs m' ≡ passes n arcs m₀
    unfolding passes
    passes_next l = go (n - (k + 1)) (omega arith)
      where
        go : (j : ℕ) → n - k ≡ suc j → passes j arcs m' ≡ passes n arcs m₀
        go j z = ap (passes j arcs) f.marks ∙ subst (λ x. passes x arcs m ≡ passes n arcs m₀) z i

    pub passes_stop : c ≡ false → m' ≡ passes n arcs m₀
    passes_stop h = let z = sym f.changed ∙ h in adds_none arcs m c m' f h ∙ sym (passes_still arcs m z arcs (λ a k. k) (n - k)) ∙ i

  pub passes_end : n ≤ k → m ≡ passes n arcs m₀
  unfolding passes
  passes_end l = let z : n - k ≡ 0 = omega arith in subst (λ x. passes x arcs m ≡ passes n arcs m₀) z i

-- a first pass from the marks m, then later ones
module _ (n : ℕ) (xs ys : List Arc) (m m₁ : List ℕ) (c : Bool) (f : Followed xs m c m₁) where
  pub later_passes : (m₂ : List ℕ) → m₂ ≡ passes n ys m₁ → m₂ ≡ passes n ys (pass xs m)
  later_passes m₂ r = r ∙ ap (passes n ys) f.marks

  pub no_later_pass : ((a : Arc) → Memᴰ a ys → Memᴰ a xs) → c ≡ false → m₁ ≡ passes n ys (pass xs m)
  no_later_pass i h =
      let e = adds_none xs m c m₁ f h in
      later_passes m₁ (e ∙ sym (passes_still xs m (sym f.changed ∙ h) ys i n) ∙ ap (passes n ys) (sym e))

-- the same from a cleared buffer with one mark
module _
    (n s : ℕ)
    (xs ys : List Arc)
    (m₀ m₁ m₂ m₃ : List ℕ)
    (c : Bool)
    (l : n ≡ length m₀)
    (p : m₁ ≡ replicate (length m₀) 0)
    (q : m₂ ≡ set m₁ s 1)
    (f : Followed xs m₂ c m₃)
  where
    begun : m₂ ≡ seeded n (s ∷ [])
    unfolding seeded
    begun = q ∙ ap (λ m. set m s 1) (p ∙ ap (λ j. replicate j 0) (sym l))

    pub later_from_one : (m : List ℕ) → m ≡ passes n ys m₃ → m ≡ passes n ys (pass xs (seeded n (s ∷ [])))
    later_from_one m r = later_passes n xs ys m₂ m₃ c f m r ∙ ap (λ x. passes n ys (pass xs x)) begun

    pub none_from_one : ((a : Arc) → Memᴰ a ys → Memᴰ a xs) → c ≡ false → m₃ ≡ passes n ys (pass xs (seeded n (s ∷ [])))
    none_from_one i h = no_later_pass n xs ys m₂ m₃ c f i h ∙ ap (λ x. passes n ys (pass xs x)) begun
