-- Passes over a list of arcs: lengths, marks that stay, nothing marked that is not reached.
use Prim.Native.Nat.{ℕ, zero, suc}
use mathlib.Core.Path.{◌≡◌, refl, sym, ◌∙◌, ap, subst}
use mathlib.Core.Logic.{◌⊎◌, inl, inr}
use mathlib.Core.Bool.{Bool, true, false, cond}
use mathlib.Core.List.{List, [], ◌∷◌, Memᴰ}
use lib.ListN.{length, get_or, set, length-set}
use lib.Dec.{eqb}
use borrow.Author.Tests.{eqb-true, eqb-false}
use Rattle.rules.specs.Marks.{Arc, follow, pass, passes}
use Rattle.closure.specs.Arcs.{ReachedBy, Marked, Bits}
use Rattle.closure.proofs.Marks.{marked_set_cases, marked_set, bits_set}

-- the arc marks its end, or changes nothing
abbrev pub FollowCase : Arc → List ℕ → List ℕ → Type 0
FollowCase a m r = (Marked m a.from × (r ≡ set m a.to 1)) ⊎ ((Marked m a.from → ⊥) × (r ≡ m))

pub follow_cases : (a : Arc) (m : List ℕ) → FollowCase a m (follow a m)
unfolding follow
follow_cases a m = go (eqb (get_or m a.from 0) 1) refl
  where
    go : (b : Bool) → eqb (get_or m a.from 0) 1 ≡ b → FollowCase a m (cond b (set m a.to 1) m)
    go true q = inl (eqb-true _ _ q, refl)
    go false q = inr (eqb-false _ _ q, refl)

-- what holds of marks and stays with each arc of a list stays with a pass and with passes
module _ (P : List ℕ → Type 0) (arcs : List Arc) (stays : (a : Arc) → Memᴰ a arcs → (m : List ℕ) → P m → P (follow a m)) where
  pass_keeps : (as' : List Arc) → ((a : Arc) → Memᴰ a as' → Memᴰ a arcs) → (m : List ℕ) → P m → P (pass as' m)
  unfolding pass
  pass_keeps [] k m h = h
  pass_keeps (a ∷ as') k m h = pass_keeps as' (λ x y. k x (Memᴰ.tail y)) (follow a m) (stays a (k a (Memᴰ.head refl)) m h)

  keeps_pass : (m : List ℕ) → P m → P (pass arcs m)
  keeps_pass m h = pass_keeps arcs (λ a k. k) m h

  pub keeps_passes : (n : ℕ) (m : List ℕ) → P m → P (passes n arcs m)
  unfolding passes
  keeps_passes zero m h = h
  keeps_passes (suc n) m h = keeps_passes n (pass arcs m) (keeps_pass m h)

pub length-follow : (a : Arc) (m : List ℕ) → length (follow a m) ≡ length m
length-follow a m = go (follow_cases a m)
  where
    go : FollowCase a m (follow a m) → length (follow a m) ≡ length m
    go (inl c) = ap length c.1 ∙ length-set m _ _
    go (inr c) = ap length c.1

pub length-pass : (arcs : List Arc) (m : List ℕ) → length (pass arcs m) ≡ length m
length-pass arcs m = keeps_pass (λ l. length l ≡ length m) arcs (λ a k l q. length-follow a l ∙ q) m refl

pub length-passes : (n : ℕ) (arcs : List Arc) (m : List ℕ) → length (passes n arcs m) ≡ length m
length-passes n arcs m = keeps_passes (λ l. length l ≡ length m) arcs (λ a k l q. length-follow a l ∙ q) n m refl

-- marks stay
marked_follow : (b : ℕ) (a : Arc) (m : List ℕ) → Marked m b → Marked (follow a m) b
marked_follow b a m h = go (follow_cases a m)
  where
    go : FollowCase a m (follow a m) → Marked (follow a m) b
    go (inl c) = subst (λ l. Marked l b) (sym c.1) (marked_set m a.to b h)
    go (inr c) = subst (λ l. Marked l b) (sym c.1) h

pub marked_passes : (n : ℕ) (arcs : List Arc) (m : List ℕ) (b : ℕ) → Marked m b → Marked (passes n arcs m) b
marked_passes n arcs m b h = keeps_passes (λ l. Marked l b) arcs (λ a k l q. marked_follow b a l q) n m h

bits_follow : (a : Arc) (m : List ℕ) → Bits m → Bits (follow a m)
bits_follow a m h = go (follow_cases a m)
  where
    go : FollowCase a m (follow a m) → Bits (follow a m)
    go (inl c) = subst Bits (sym c.1) (bits_set m a.to h)
    go (inr c) = subst Bits (sym c.1) h

pub bits_passes : (n : ℕ) (arcs : List Arc) (m : List ℕ) → Bits m → Bits (passes n arcs m)
bits_passes n arcs m h = keeps_passes Bits arcs (λ a k l q. bits_follow a l q) n m h

-- what is marked is reached
module _ (arcs : List Arc) (ss : List ℕ) where
  abbrev Reaches : List ℕ → Type 0
  Reaches m = (b : ℕ) → Marked m b → ReachedBy arcs ss b

  reaches_follow : (a : Arc) → Memᴰ a arcs → (m : List ℕ) → Reaches m → Reaches (follow a m)
  reaches_follow a k m h b o = go (follow_cases a m)
    where
      by : Marked m a.from → Marked m b ⊎ (b ≡ a.to) → ReachedBy arcs ss b
      by f (inl z) = h b z
      by f (inr z) = ReachedBy.along a (h a.from f) k refl (sym z)

      go : FollowCase a m (follow a m) → ReachedBy arcs ss b
      go (inl c) = by c.0 (marked_set_cases m a.to b (subst (λ l. Marked l b) c.1 o))
      go (inr c) = h b (subst (λ l. Marked l b) c.1 o)

  -- after passes over some of the arcs
  pub reached_passes : (xs : List Arc) → ((x : Arc) → Memᴰ x xs → Memᴰ x arcs) → (n : ℕ) (m : List ℕ) → ((b : ℕ) → Marked m b → ReachedBy arcs ss b)
      → (b : ℕ) → Marked (passes n xs m) b → ReachedBy arcs ss b
  reached_passes xs i n m h = keeps_passes Reaches xs (λ x k. reaches_follow x (i x k)) n m h
