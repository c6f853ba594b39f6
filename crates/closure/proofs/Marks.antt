-- Lists of marks: one more mark, how many places are not marked, lists with the same marks.
use Prim.Native.Nat.{ℕ, zero, suc, ◌+◌, ◌≤◌, ◌<◌}
use native.Mathlib.Nat.{le_of_suc-le-suc}
use native.Mathlib.Omega.{arith}
use native.Mathlib.Decide.{ℕ_discrete, dec_lt}
use mathlib.Core.Path.{◌≡◌, sym, ◌∙◌, subst}
use mathlib.Core.Logic.{◌⊎◌, inl, inr, ◌↔◌}
use mathlib.Core.Bool.{Bool, true, false, cond}
use mathlib.Core.List.{List, [], ◌∷◌}
use lib.ListN.{length, get_or, set, replicate, length-set, get_or-eq_default}
use lib.Seq.{get_or-set_same, get_or-set_other, set-get_or, ext_get_or}
use lib.Dec.{eqb}
use borrow.Author.Tests.{ne_eqb}
use Rattle.rows.proofs.Stores.{get_or_zeros}
use Rattle.closure.specs.Arcs.{Marked, Bits, unmarked}

pub marked_in : (m : List ℕ) (b : ℕ) → Marked m b → b < length m
marked_in m b h = go (dec_lt b (length m))
  where
    go : Dec (b < length m) → b < length m
    go (yes l) = l
    go (no l) = absurd (omega (arith, get_or-eq_default m 0 {n = b} (omega arith)))

pub bits_zeros : (n : ℕ) → Bits (replicate {A = ℕ} n 0)
bits_zeros n b = inl (get_or_zeros n b)

-- past its end a list has no marks
pub bits_past : (m : List ℕ) → ((b : ℕ) → b < length m → (get_or m b 0 ≡ 0) ⊎ Marked m b) → Bits m
bits_past m h b = go (dec_lt b (length m))
  where
    go : Dec (b < length m) → (get_or m b 0 ≡ 0) ⊎ Marked m b
    go (yes l) = h b l
    go (no l) = inl (get_or-eq_default m 0 {n = b} (omega arith))

-- one more mark

pub marked_set_cases : (m : List ℕ) (i b : ℕ) → Marked (set m i 1) b → Marked m b ⊎ (b ≡ i)
marked_set_cases m i b h = go (ℕ_discrete b i)
  where
    go : Dec (b ≡ i) → Marked m b ⊎ (b ≡ i)
    go (yes q) = inr q
    go (no n) = inl (sym (get_or-set_other m i b 1 0 n) ∙ h)

pub marked_set : (m : List ℕ) (i b : ℕ) → Marked m b → Marked (set m i 1) b
marked_set m i b h = go (ℕ_discrete b i)
  where
    go : Dec (b ≡ i) → Marked (set m i 1) b
    go (yes q) = rw (← q) (get_or-set_same m b 1 0 (marked_in m b h))
    go (no n) = get_or-set_other m i b 1 0 n ∙ h

pub marked_set_same : (m : List ℕ) (i : ℕ) → i < length m → Marked (set m i 1) i
marked_set_same m i l = get_or-set_same m i 1 0 l

-- marking a marked place changes nothing
pub set_marked : (m : List ℕ) (i : ℕ) → Marked m i → set m i 1 ≡ m
set_marked m i h = subst (λ v. set m i v ≡ m) h (set-get_or m i 0)

pub bits_set : (m : List ℕ) (i : ℕ) → Bits m → Bits (set m i 1)
bits_set m i h b = go (ℕ_discrete b i) (dec_lt b (length m))
  where
    other : (get_or m b 0 ≡ 0) ⊎ Marked m b → get_or (set m i 1) b 0 ≡ get_or m b 0 → (get_or (set m i 1) b 0 ≡ 0) ⊎ Marked (set m i 1) b
    other (inl z) q = inl (q ∙ z)
    other (inr z) q = inr (q ∙ z)

    go : Dec (b ≡ i) → Dec (b < length m) → (get_or (set m i 1) b 0 ≡ 0) ⊎ Marked (set m i 1) b
    go (yes q) (yes l) = inr (rw (← q) (get_or-set_same m b 1 0 l))
    go (yes q) (no l) = inl (get_or-eq_default (set m i 1) 0 {n = b} (omega (arith, length-set m i 1)))
    go (no n) l = other (h b) (get_or-set_other m i b 1 0 n)

-- lists with the same marks are equal
pub marks_ext : (m m' : List ℕ) → length m ≡ length m' → Bits m → Bits m' → ((b : ℕ) → b < length m → Marked m b ↔ Marked m' b) → m ≡ m'
marks_ext m m' l h h' e = ext_get_or 0 m m' l (λ b k. go b (e b k) (h b) (h' b))
  where
    go : (b : ℕ) → Marked m b ↔ Marked m' b → (get_or m b 0 ≡ 0) ⊎ Marked m b → (get_or m' b 0 ≡ 0) ⊎ Marked m' b → get_or m b 0 ≡ get_or m' b 0
    go b o (inr x) y = x ∙ sym (o.0 x)
    go b o (inl x) (inl y) = x ∙ sym y
    go b o (inl x) (inr y) = absurd (omega (arith, o.1 y))

-- how many places are not marked

pub unmarked_le : (m : List ℕ) → unmarked m ≤ length m
unfolding unmarked
unmarked_le [] = omega arith
unmarked_le (x ∷ m) = go (eqb x 1) (unmarked_le m)
  where
    go : (b : Bool) → unmarked m ≤ length m → cond b 0 1 + unmarked m ≤ suc (length m)
    go true h = omega arith
    go false h = omega arith

-- a new mark is one place less
pub unmarked-set : (m : List ℕ) (i : ℕ) → i < length m → (Marked m i → ⊥) → suc (unmarked (set m i 1)) ≡ unmarked m
unfolding unmarked
unmarked-set [] i l h = absurd (omega arith)
unmarked-set (x ∷ m) zero l h = rw (ne_eqb x 1 h) (omega arith)
unmarked-set (x ∷ m) (suc i) l h = go (eqb x 1) (unmarked-set m i (le_of_suc-le-suc l) h)
  where
    go : (b : Bool) → suc (unmarked (set m i 1)) ≡ unmarked m → suc (cond b 0 1 + unmarked (set m i 1)) ≡ cond b 0 1 + unmarked m
    go true q = omega arith
    go false q = omega arith
