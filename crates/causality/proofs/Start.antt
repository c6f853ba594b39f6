-- The start version (document 01's term) is where the walk back from the latest version stops.
use Prim.Native.Nat.{ℕ, ◌≤◌, ◌<◌}
use native.Mathlib.Omega.{arith}
use mathlib.Core.Path.{refl, sym, ◌∙◌, subst}
use mathlib.Core.Logic.{◌⊎◌, inl, inr}
use mathlib.Core.List.{List}
use Rattle.rules.specs.Trail.{Trail, latest_of}
use Rattle.rules.specs.History.{Item}
use Rattle.rules.specs.Start.{OnChain, StartVersion}
use Rattle.rules.proofs.Start.{start_one}
use Rattle.causality.specs.Working.{ne, nv, start_time, previous_of, PrevIn, Grown}
use Rattle.causality.proofs.Invariant.{Inv, prev_in}
use Rattle.causality.proofs.Growth.{inv}
use Rattle.causality.proofs.Walk.{Walk, stop, back, StartsAt, walk_start, starts_some}

chain_in : {T : Trail} {l x w : ℕ} → Inv T l → x < ne T → OnChain T x w → w < nv T
chain_in i h (OnChain.latest q) = rw q (i.latest_in _ h)
chain_in {T} i h (OnChain.previous {v = v} c n q) =
    let p : PrevIn T (previous_of T v) v = record { inside = chain_in i h c; some = n; is = refl } in
    rw q (prev_in i p)

walk_chain : {T : Trail} {t x w s : ℕ} → OnChain T x w → Walk T t w s → OnChain T x s
walk_chain {T} {x = x} c (stop q h) = subst (λ z. OnChain T x z) q c
walk_chain c (back h p r) = walk_chain (OnChain.previous c p.some (sym p.is)) r

-- a version on the chain is not above s, or the walk passes it
abbrev Passed : Trail → ℕ → ℕ → ℕ → Type 0
Passed T t s w = (w ≤ s) ⊎ ((t < start_time T w) × Walk T t w s)

passed : {T : Trail} {t w s : ℕ} → Walk T t w s → Passed T t s w
passed (stop q h) = inl (omega arith)
passed (back h p r) = inr (h, back h p r)

chain_passed : {T : Trail} {l t x s w : ℕ} → Inv T l → x < ne T → StartsAt T x t s → OnChain T x w → Passed T t s w
chain_passed {T} {t = t} {s = s} i h r (OnChain.latest q) = rw q (passed r)
chain_passed {T} {t = t} {x = x} {s = s} {w = w} i h r (OnChain.previous {v = v} c n q) = go (chain_passed i h r c)
  where
    p : PrevIn T w v
    p = record { inside = chain_in i h c; some = n; is = sym q }

    step : t < start_time T v → Walk T t v s → Passed T t s w
    step m (stop z k) = absurd (omega arith)
    step m (back {p = b} k o y) = passed (subst (λ z. Walk T t z s) (sym o.is ∙ p.is) y)

    go : Passed T t s v → Passed T t s w
    go (inl m) = inl (omega (arith, i.prev_less p))
    go (inr m) = step m.0 m.1

pub walk_version : {T : Trail} {l x t s : ℕ} → Inv T l → x < ne T → StartsAt T x t s → StartVersion T x t s
walk_version {T} {x = x} {t = t} {s = s} i h r =
    record { on_chain = walk_chain (OnChain.latest refl) r; by = walk_start r; highest = λ w c k. go w k (chain_passed i h r c) }
  where
    go : (w : ℕ) → start_time T w ≤ t → Passed T t s w → w ≤ s
    go w k (inl m) = m
    go w k (inr m) = absurd (omega (arith, m.0))

-- there is one
pub start_some : {T : Trail} {hs : List Item} → Grown T hs → (x t : ℕ) → x < ne T → (s : ℕ) × StartVersion T x t s
start_some g x t h = let s = starts_some g x t h in (s.0, walk_version (inv g) h s.1)

pub version_walk : {T : Trail} {hs : List Item} {x t s : ℕ} → Grown T hs → x < ne T → StartVersion T x t s → StartsAt T x t s
version_walk {T} {x = x} {t = t} g h p =
    let r = starts_some g x t h in
    subst (λ z. Walk T t (latest_of T x) z) (start_one (walk_version (inv g) h r.1) p) r.1
