-- The start version of document 01, "Traces", is the one computed.
use Prim.Native.Nat.{ℕ, zero, suc, ◌≤◌, ◌<◌}
use native.Mathlib.Omega.{arith}
use mathlib.Core.Path.{◌≡◌, refl, ◌∙◌, ap}
use mathlib.Core.Logic.{◌⊎◌, inl, inr}
use mathlib.Core.Bool.{Bool, true, false, cond}
use lib.Dec.{leb}
use borrow.Author.Tests.{leb-false}
use Rattle.rules.specs.Trail.{Trail, none, latest_of, owner_of}
use Rattle.rules.specs.Start.{OnChain, StartVersion, start_from, start_of}
use Rattle.soundness.specs.Facts.{RowFacts}
use Rattle.closure.proofs.Start.{start_from_stop, previous_lower, previous_before, start_by}

module _ (T : Trail) (f : RowFacts T) where
  -- a version on the chain exists and is of the entity
  pub on_chain_in : {x w : ℕ} → x < T.counts.entities → OnChain T x w → (w < T.counts.versions) × (owner_of T w ≡ x)
  on_chain_in {x} h (OnChain.latest q) = rw q ((f.entity x h).latest_in, (f.entity x h).latest_owner)
  on_chain_in {x} h (OnChain.previous {v = v} {w = w} c d q) = go (on_chain_in h c)
    where
      go : (v < T.counts.versions) × (owner_of T v ≡ x) → (w < T.counts.versions) × (owner_of T w ≡ x)
      go (l, o) =
          let r = f.version v l in
          rw q (omega (arith, previous_before T f v l d), r.previous_owner (λ z. d (r.first z)) ∙ o)

  module _ (x t : ℕ) (h : x < T.counts.entities) where
    -- a version on the chain is not above what the search finds, or the search passes it
    abbrev Placed : ℕ → Type 0
    Placed w = (w ≤ start_of T x t) ⊎ ((n : ℕ) × (w < n) × (start_from T.version t n w ≡ start_of T x t))

    placed : {w : ℕ} → OnChain T x w → Placed w
    unfolding start_of start_from
    placed {w} (OnChain.latest q) = inr (T.counts.versions, omega (arith, (f.entity x h).latest_in), ap (start_from T.version t T.counts.versions) q)
    placed {w} (OnChain.previous {v = v} c d q) = go (placed c)
      where
        lower : w < v
        lower = omega (arith, previous_before T f v (on_chain_in h c).0 d)

        by : (n : ℕ) → v < suc n → (b : Bool) → leb (T.version v).start t ≡ b → cond b v (start_from T.version t n (T.version v).previous.0) ≡ start_of T x t → Placed w
        by n l true z e = inl (omega (arith, lower))
        by n l false z e = inr (n, omega (arith, lower), ap (start_from T.version t n) q ∙ e)

        turn : (n : ℕ) → v < n → start_from T.version t n v ≡ start_of T x t → Placed w
        turn zero l e = absurd (omega arith)
        turn (suc n) l e = by n l (leb (T.version v).start t) refl e

        go : Placed v → Placed w
        go (inl l) = inl (omega (arith, lower))
        go (inr (n, l, e)) = turn n l e

    start_highest : (w : ℕ) → OnChain T x w → (T.version w).start ≤ t → w ≤ start_of T x t
    start_highest w c l = go (placed c)
      where
        go : Placed w → w ≤ start_of T x t
        go (inl z) = z
        go (inr (n, k, e)) = omega (arith, start_from_stop T t n w l, e)

  -- numbers of versions are below none
  module _ (few : T.counts.versions ≤ none) where
    start_from-chain : (x t n w : ℕ) → OnChain T x w → w < T.counts.versions → OnChain T x (start_from T.version t n w)
    unfolding start_from
    start_from-chain x t zero w c l = c
    start_from-chain x t (suc n) w c l = go (leb (T.version w).start t) refl (λ p d i. start_from-chain x t n p d i)
      where
        go : (b : Bool) → leb (T.version w).start t ≡ b → ((p : ℕ) → OnChain T x p → p < T.counts.versions → OnChain T x (start_from T.version t n p))
            → OnChain T x (cond b w (start_from T.version t n (T.version w).previous.0))
        go true q ih = c
        go false q ih =
            let p = previous_lower T f t w l (leb-false _ _ q) in
            ih (T.version w).previous.0 (OnChain.previous c (λ z. omega arith) refl) (omega arith)

    -- the start version of the document is the one computed
    pub start_of_is : (x t : ℕ) → x < T.counts.entities → StartVersion T x t (start_of T x t)
    start_of_is x t h = record {
      on_chain = unfold start_of in start_from-chain x t T.counts.versions (latest_of T x) (OnChain.latest refl) (f.entity x h).latest_in;
      by = start_by T f x t h;
      highest = start_highest x t h;
    }
