-- The marks of `closed` are what the arcs reach from the seeds, and no other list has these marks.
use Prim.Native.Nat.{ℕ, ◌<◌}
use native.Mathlib.Omega.{arith}
use mathlib.Core.Path.{◌≡◌, sym, ◌∙◌, subst}
use mathlib.Core.Logic.{◌⊎◌, inl, inr, ◌↔◌}
use mathlib.Core.List.Memᴰ
use mathlib.Core.List.{List, [], ◌∷◌, Memᴰ}
use lib.ListN.{length, get_or, set, length-set, length-replicate}
use Rattle.rows.proofs.Stores.{get_or_zeros}
use Rattle.rules.specs.Marks.{Arc, pass, passes, seeded, closed}
use Rattle.closure.specs.Arcs.{ReachedBy, Marked, Bits, EndBelow, AllBelow, ClosedUnder}
use Rattle.closure.proofs.Marks.{bits_zeros, marked_set_cases, marked_set, marked_set_same, bits_set, marks_ext, unmarked_le}
use Rattle.closure.proofs.Passes.{length-passes, marked_passes, bits_passes, reached_passes}
use Rattle.closure.proofs.Steady.{Steady, passes_enough}

-- the seeds

pub length-seeded : (n : ℕ) (ss : List ℕ) → length (seeded n ss) ≡ n
unfolding seeded
length-seeded n [] = length-replicate {A = ℕ} n 0
length-seeded n (s ∷ ss) = length-set (seeded n ss) s 1 ∙ length-seeded n ss

pub bits_seeded : (n : ℕ) (ss : List ℕ) → Bits (seeded n ss)
unfolding seeded
bits_seeded n [] = bits_zeros n
bits_seeded n (s ∷ ss) = bits_set (seeded n ss) s (bits_seeded n ss)

pub marked_seeded : (n : ℕ) (ss : List ℕ) (b : ℕ) → b < n → Memᴰ b ss → Marked (seeded n ss) b
unfolding seeded
marked_seeded n [] b l k = absurd (Memᴰ.not-nil k)
marked_seeded n (s ∷ ss) b l k = go (Memᴰ.cases_cons k) (λ k'. marked_seeded n ss b l k')
  where
    go : (b ≡ s) ⊎ Memᴰ b ss → (Memᴰ b ss → Marked (seeded n ss) b) → Marked (set (seeded n ss) s 1) b
    go (inl q) r = rw (← q) (marked_set_same (seeded n ss) b (omega (arith, length-seeded n ss)))
    go (inr k') r = marked_set (seeded n ss) s b (r k')

pub seeded_marked : (n : ℕ) (ss : List ℕ) (b : ℕ) → Marked (seeded n ss) b → Memᴰ b ss
unfolding seeded
seeded_marked n [] b o = absurd (omega (arith, get_or_zeros n b))
seeded_marked n (s ∷ ss) b o = go (marked_set_cases (seeded n ss) s b o) (λ z. seeded_marked n ss b z)
  where
    go : Marked (seeded n ss) b ⊎ (b ≡ s) → (Marked (seeded n ss) b → Memᴰ b ss) → Memᴰ b (s ∷ ss)
    go (inl z) r = Memᴰ.tail (r z)
    go (inr q) r = Memᴰ.head q

-- marks that have the seeds and are closed have all that is reached
pub reached_marked : (arcs : List Arc) (ss m : List ℕ) → ((s : ℕ) → Memᴰ s ss → Marked m s) → ClosedUnder arcs m → {b : ℕ} → ReachedBy arcs ss b → Marked m b
reached_marked arcs ss m h c (ReachedBy.seed {b = b} k) = h b k
reached_marked arcs ss m h c (ReachedBy.along x r k q z) = subst (Marked m) z (c x k (subst (Marked m) (sym q) (reached_marked arcs ss m h c r)))

pub length-closed : (n : ℕ) (arcs : List Arc) (ss : List ℕ) → length (closed n arcs ss) ≡ n
unfolding closed
length-closed n arcs ss = length-passes n arcs (seeded n ss) ∙ length-seeded n ss

pub bits_closed : (n : ℕ) (arcs : List Arc) (ss : List ℕ) → Bits (closed n arcs ss)
unfolding closed
bits_closed n arcs ss = bits_passes n arcs (seeded n ss) (bits_seeded n ss)

pub closed_reached : (n : ℕ) (arcs : List Arc) (ss : List ℕ) (b : ℕ) → Marked (closed n arcs ss) b → ReachedBy arcs ss b
unfolding closed
closed_reached n arcs ss = reached_passes arcs ss arcs (λ x k. k) n (seeded n ss) (λ b o. ReachedBy.seed (seeded_marked n ss b o))

module _ (n : ℕ) (arcs : List Arc) (ss : List ℕ) (ends : EndBelow n arcs) (starts : AllBelow n ss) where
  closed_steady : Steady arcs (closed n arcs ss)
  unfolding closed
  closed_steady =
      passes_enough n arcs (seeded n ss) (λ x k. omega (arith, ends x k, length-seeded n ss))
      (omega (arith, unmarked_le (seeded n ss), length-seeded n ss))

  closed_seeds : (s : ℕ) → Memᴰ s ss → Marked (closed n arcs ss) s
  unfolding closed
  closed_seeds s k = marked_passes n arcs (seeded n ss) s (marked_seeded n ss s (starts s k) k)

  -- marked are the places reached
  pub closed_iff : (b : ℕ) → get_or (closed n arcs ss) b 0 ≡ 1 ↔ ReachedBy arcs ss b
  closed_iff b = (closed_reached n arcs ss b, λ r. reached_marked arcs ss (closed n arcs ss) closed_seeds closed_steady.1 r)

  -- marks that have the seeds, have nothing that is not reached, and are closed under the arcs are those of `closed`
  pub closed_unique : (m : List ℕ) → length m ≡ n → Bits m → ((s : ℕ) → Memᴰ s ss → Marked m s)
      → ((b : ℕ) → Marked m b → ReachedBy arcs ss b) → ClosedUnder arcs m → m ≡ closed n arcs ss
  closed_unique m l h s r c =
      marks_ext m (closed n arcs ss) (l ∙ sym (length-closed n arcs ss)) h (bits_closed n arcs ss)
      (λ b _. (λ o. (closed_iff b).1 (r b o), λ o. reached_marked arcs ss m s c (closed_reached n arcs ss b o)))

  -- passes over the same arcs in another order, some of them more than once, after a pass over some of the arcs
  pub closed_same : (xs ys : List Arc) → ((x : Arc) → Memᴰ x xs → Memᴰ x arcs) → ((x : Arc) → Memᴰ x ys ↔ Memᴰ x arcs)
      → passes n ys (pass xs (seeded n ss)) ≡ closed n arcs ss
  unfolding passes
  closed_same xs ys some same =
      closed_unique (passes n ys m) (length-passes n ys m ∙ l) (bits_passes n ys m (bits_passes 1 xs (seeded n ss) (bits_seeded n ss)))
      (λ s k. marked_passes n ys m s (marked_passes 1 xs (seeded n ss) s (marked_seeded n ss s (starts s k) k)))
      (reached_passes arcs ss ys (λ x. (same x).0) n m (reached_passes arcs ss xs some 1 (seeded n ss) (λ b o. ReachedBy.seed (seeded_marked n ss b o))))
      (λ x k. (passes_enough n ys m (λ y z. omega (arith, ends y ((same y).0 z), l)) (omega (arith, unmarked_le m, l))).1 x ((same x).1 k))
    where
      m : List ℕ
      m = pass xs (seeded n ss)

      l : length m ≡ n
      l = length-passes 1 xs (seeded n ss) ∙ length-seeded n ss
