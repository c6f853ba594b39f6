-- The count of a trace: the number of ones is the number of the places marked.
use Prim.Native.Nat.{ℕ, zero, suc, ◌+◌, ◌≤◌, ◌<◌}
use native.Mathlib.Omega.{arith}
use mathlib.Core.Path.{◌≡◌, refl, sym, ◌∙◌, ap, subst}
use mathlib.Core.Logic.{◌↔◌}
use mathlib.Core.Bool.{Bool, true, false, cond}
use mathlib.Core.List.{List, [], ◌∷◌, ◌++◌, Memᴰ}
use lib.ListN.{length, get_or, take}
use lib.Seq.{take-suc, take-length}
use lib.Dec.{eqb}
use borrow.Author.Tests.{eqb-true, eq-eqb}
use Rattle.rules.specs.Marks.{ones}
use Rattle.closure.specs.Arcs.{Marked}
use Rattle.closure.specs.Collected.{collected}
use Rattle.closure.specs.ByRelations.{Descending}
use Rattle.closure.proofs.Marks.{marked_in}
use Rattle.closure.proofs.Collected.{collected_iff}

pub ones-append : (a b : List ℕ) → ones (a ++ b) ≡ ones a + ones b
unfolding ones
ones-append [] b = omega arith
ones-append (x ∷ a) b = omega (arith, ones-append a b)

pub ones_take_suc : (m : List ℕ) (j : ℕ) → j < length m → ones (take (suc j) m) ≡ ones (take j m) + cond (eqb (get_or m j 0) 1) 1 0
unfolding ones
ones_take_suc m j l = ap ones (take-suc m j 0 l) ∙ ones-append (take j m) (get_or m j 0 ∷ []) ∙ omega arith

-- the places marked below n, the highest first

abbrev places_below : List ℕ → ℕ → List ℕ
places_below m n = collected (λ k. eqb (get_or m k 0) 1) (λ k. k) n

abbrev pub places : List ℕ → List ℕ
places m = places_below m (length m)

length-places_below : (m : List ℕ) (n : ℕ) → n ≤ length m → length (places_below m n) ≡ ones (take n m)
unfolding collected ones
length-places_below m zero l = refl
length-places_below m (suc n) l = go (eqb (get_or m n 0) 1) (length-places_below m n (omega arith)) (ones_take_suc m n l)
  where
    go : (b : Bool) → length (places_below m n) ≡ ones (take n m) → ones (take (suc n) m) ≡ ones (take n m) + cond b 1 0
        → length (cond b (n ∷ places_below m n) (places_below m n)) ≡ ones (take (suc n) m)
    go true q r = omega arith
    go false q r = omega arith

pub ones-places : (m : List ℕ) → ones m ≡ length (places m)
ones-places m = sym (length-places_below m (length m) (omega arith) ∙ ap ones (take-length m))

-- each marked place stands among them, and nothing else
pub places_iff : (m : List ℕ) (x : ℕ) → Memᴰ x (places m) ↔ Marked m x
places_iff m x =
    let i = collected_iff (λ k. eqb (get_or m k 0) 1) (λ k. k) (length m) x in
    (λ z. let o = i.0 z in subst (Marked m) (sym o.3) (eqb-true _ _ o.2), λ o. i.1 (x, marked_in m x o, eq-eqb _ _ o, refl))

descending_below : (m : List ℕ) (n : ℕ) → Descending (places_below m n)
unfolding collected
descending_below m zero = tt
descending_below m (suc n) = go (eqb (get_or m n 0) 1) (descending_below m n)
  where
    go : (b : Bool) → Descending (places_below m n) → Descending (cond b (n ∷ places_below m n) (places_below m n))
    go true f = (λ y k. let o = (collected_iff (λ k. eqb (get_or m k 0) 1) (λ k. k) n y).0 k in omega (arith, o.1, o.3), f)
    go false f = f

-- and none stands twice
pub places-descending : (m : List ℕ) → Descending (places m)
places-descending m = descending_below m (length m)
