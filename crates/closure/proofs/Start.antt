-- The search for a start version (document 01, "Traces"), where the rows are as in sound tables.
use Prim.Native.Nat.{ℕ, zero, suc, ◌≤◌, ◌<◌}
use native.Mathlib.Omega.{arith}
use mathlib.Core.Path.{◌≡◌, refl}
use mathlib.Core.Bool.{Bool, true, false, cond}
use lib.Dec.{leb}
use borrow.Author.Tests.{leb-true, leb-false, le-leb}
use Rattle.rules.specs.Trail.{Trail, none, latest_of}
use Rattle.rules.specs.Start.{start_from, start_of}
use Rattle.soundness.specs.Facts.{RowFacts}

-- one step of the search, by its test
pub start_from_stop : (T : Trail) (t n w : ℕ) → (T.version w).start ≤ t → start_from T.version t n w ≡ w
unfolding start_from
start_from_stop T t zero w h = refl
start_from_stop T t (suc n) w h = rw (le-leb _ _ h)

module _ (T : Trail) (f : RowFacts T) where
  -- a version that starts after t has a previous one
  pub previous_lower : (t w : ℕ) → w < T.counts.versions → t < (T.version w).start → (T.version w).previous.0 < w
  previous_lower t w l h = (f.version w l).previous_in (λ z. omega arith)

  -- so has each whose previous is not none
  pub previous_before : (w : ℕ) → w < T.counts.versions → ((T.version w).previous.0 ≡ none → ⊥) → (T.version w).previous.0 < w
  previous_before w l d = (f.version w l).previous_in (λ z. d ((f.version w l).first z))

  -- what the search finds exists and starts by t
  abbrev Found : ℕ → ℕ → Type 0
  Found t s = (s < T.counts.versions) × ((T.version s).start ≤ t)

  start_from-found : (t n w : ℕ) → w < n → w < T.counts.versions → Found t (start_from T.version t n w)
  unfolding start_from
  start_from-found t zero w a l = absurd (omega arith)
  start_from-found t (suc n) w a l = go (leb (T.version w).start t) refl (λ p i j. start_from-found t n p i j)
    where
      go : (c : Bool) → leb (T.version w).start t ≡ c → ((p : ℕ) → p < n → p < T.counts.versions → Found t (start_from T.version t n p))
          → Found t (cond c w (start_from T.version t n (T.version w).previous.0))
      go true q ih = (l, leb-true _ _ q)
      go false q ih =
          let z : t < (T.version w).start = leb-false _ _ q in
          let p = previous_lower t w l z in
          ih (T.version w).previous.0 (omega arith) (omega arith)

  module _ (x t : ℕ) (h : x < T.counts.entities) where
    start_found : Found t (start_of T x t)
    unfolding start_of
    start_found = start_from-found t T.counts.versions (latest_of T x) (f.entity x h).latest_in (f.entity x h).latest_in

    pub start_in : start_of T x t < T.counts.versions
    start_in = start_found.0

    pub start_by : (T.version (start_of T x t)).start ≤ t
    start_by = start_found.1
