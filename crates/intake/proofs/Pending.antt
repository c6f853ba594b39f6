-- How many marks there are: one less where one is taken away, at most one more where one is added.
use Rattle.std.proofs.Common.{ℕ, zero, suc, ◌≤◌, ◌≡◌, refl, List, [], ◌∷◌, map, length, set, replicate, arith}
use borrow.Author.Tests.{eq-eqb}
use Rattle.rules.specs.Trail.{Trail}
use Rattle.rules.specs.Start.{start_of}
use Rattle.rules.specs.Marks.{ones, seeded}
use Rattle.closure.specs.Arcs.{Marked}
use Rattle.rules.specs.Forward.{starts_of}

pub ones_unmark : (m : List ℕ) (i : ℕ) → Marked m i → suc (ones (set m i 0)) ≡ ones m
unfolding ones
ones_unmark [] i h = absurd (omega arith)
ones_unmark (x ∷ m) zero h = rw (eq-eqb x 1 h) (omega arith)
ones_unmark (x ∷ m) (suc i) h = let q = ones_unmark m i h in omega arith

ones_mark : (m : List ℕ) (i : ℕ) → ones (set m i 1) ≤ suc (ones m)
unfolding ones
ones_mark [] i = omega arith
ones_mark (x ∷ m) zero = omega arith
ones_mark (x ∷ m) (suc i) = let q = ones_mark m i in omega arith

pub ones_none : (m : List ℕ) → ones m ≤ 0 → (i : ℕ) → Marked m i → ⊥
ones_none m l i h = omega (arith, ones_unmark m i h)

ones_zeros : (n : ℕ) → ones (replicate n 0) ≡ 0
unfolding ones
ones_zeros zero = refl
ones_zeros (suc n) = omega (arith, ones_zeros n)

ones-seeded : (g : ℕ → ℕ) (n : ℕ) (us : List ℕ) → ones (seeded n (map g us)) ≤ length us
unfolding seeded
ones-seeded g n [] = omega (arith, ones_zeros n)
ones-seeded g n (u ∷ us) = omega (arith, ones-seeded g n us, ones_mark (seeded n (map g us)) (g u))

-- the start versions are at most as many as the members
pub ones_few : (T : Trail) (us : List ℕ) (t n : ℕ) (m : List ℕ) → m ≡ seeded n (starts_of T us t) → ones m ≤ length us
ones_few T us t n m q = rw q (ones-seeded (λ u. start_of T u t) n us)
