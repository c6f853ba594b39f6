-- With strictly rising times, the order of acceptance is the order of times: causal paths are document 01's chains by times.
use Prim.Native.Nat.{ℕ, ◌≤◌, ◌<◌}
use native.Mathlib.Omega.{arith}
use mathlib.Core.Path.{◌≡◌, refl, sym, subst}
use mathlib.Core.Logic.{◌⊎◌, inl, inr, ⊎_elim, ◌↔◌}
use mathlib.Core.List.Memᴰ
use mathlib.Core.List.{List, [], ◌∷◌, Memᴰ}
use Rattle.record.specs.declared.Event.{Event}
use Rattle.rules.specs.Paths.{Part, done, skip, take, CausalPath, All, PathBy}
use Rattle.causality.specs.Times.{Strict, Rising, RisingPath, RisingBy, RisingFrom}
use Rattle.causality.proofs.Reach.{All-imp, All-part, part_nil}

pub strict_part : {c es : List Event} → Part c es → Strict es → Strict c
strict_part done f = tt
strict_part (skip s) f = strict_part s f.1
strict_part (take {e = e} s) f = (All-part (λ d. d.time < e.time) s f.0, strict_part s f.1)

-- every event of c is one of es
abbrev pub Among : List Event → List Event → Type 0
Among c es = (e : Event) → Memᴰ e c → Memᴰ e es

pub among_nil : {es : List Event} → Among [] es
among_nil e m = absurd (Memᴰ.not-nil m)

pub among_cons : {d : Event} {c es : List Event} → Memᴰ d es → Among c es → Among (d ∷ c) es
among_cons k a e m = ⊎_elim (λ q. Memᴰ.cast q k) (a e) (Memᴰ.cases_cons m)

part_in : {c es : List Event} → Part c es → Among c es
part_in done = among_nil
part_in (skip s) = λ e m. Memᴰ.tail (part_in s e m)
part_in (take s) = among_cons (Memᴰ.head refl) (λ e m. Memᴰ.tail (part_in s e m))

pub all_mem : (p : Event → Type 0) (es : List Event) → All p es → {e : Event} → Memᴰ e es → p e
all_mem p [] a m = absurd (Memᴰ.not-nil m)
all_mem p (f ∷ es) a {e} m = go (Memᴰ.cases_cons m) (λ k. all_mem p es a.1 k)
  where
    go : (e ≡ f) ⊎ Memᴰ e es → (Memᴰ e es → p e) → p e
    go (inl q) ih = subst p (sym q) a.0
    go (inr k) ih = ih k

-- events all earlier than e, of e ∷ es, are of es
older : (e : Event) (es c : List Event) → All (λ d. d.time < e.time) c → Among c (e ∷ es) → Among c es
older e es c b a d m = go (Memᴰ.cases_cons (a d m))
  where
    go : (d ≡ e) ⊎ Memᴰ d es → Memᴰ d es
    go (inl q) = let h : e.time < e.time = rw q at (all_mem (λ x. x.time < e.time) c b m) in absurd (omega arith)
    go (inr k) = k

abbrev Parts : List Event → Type 0
Parts es = (c : List Event) → Strict c → Among c es → Part c es

in_part : (es : List Event) → Strict es → Parts es
in_part [] f = go
  where
    go : (c : List Event) → Strict c → Among c [] → Part c []
    go [] g a = done
    go (d ∷ c) g a = absurd (Memᴰ.not-nil (a d (Memᴰ.head refl)))
in_part (e ∷ es) f = go (in_part es f.1)
  where
    step : Parts es → (d : Event) (c : List Event) → Strict (d ∷ c) → Among (d ∷ c) (e ∷ es) → (d ≡ e) ⊎ Memᴰ d es → Part (d ∷ c) (e ∷ es)
    step ih d c g a (inl q) = rw q (take (ih c g.1 (older e es c (rw q at g.0) (λ x k. a x (Memᴰ.tail k)))))
    step ih d c g a (inr m) =
        let l : d.time < e.time = all_mem (λ x. x.time < e.time) es f.0 m in
        skip (ih (d ∷ c) g (older e es (d ∷ c) (l, All-imp (λ x k. omega arith) c g.0) a))

    go : Parts es → (c : List Event) → Strict c → Among c (e ∷ es) → Part c (e ∷ es)
    go ih [] g a = part_nil (e ∷ es)
    go ih (d ∷ c) g a = step ih d c g a (Memᴰ.cases_cons (a d (Memᴰ.head refl)))

-- times that rise from each event to the next rise strictly

strict_rising : (p : List Event) → Strict p → Rising p
strict_rising [] f = tt
strict_rising (e ∷ []) f = tt
strict_rising (e ∷ (d ∷ p)) f = (f.0.0, strict_rising (d ∷ p) f.1)

rising_strict : (p : List Event) → Rising p → Strict p
rising_strict [] r = tt
rising_strict (e ∷ []) r = (tt, tt)
rising_strict (e ∷ (d ∷ p)) r = let f = rising_strict (d ∷ p) r.1 in ((r.0, All-imp (λ x k. omega (arith, r.0)) p f.0), f)

module _ (es : List Event) (f : Strict es) (x y : ℕ) where
  to_rising : CausalPath es x y → RisingPath es x y
  to_rising p = record { path = p.path; links = p.links; rising = strict_rising p.path (strict_part p.order f); members = part_in p.order }

  from_rising : RisingPath es x y → CausalPath es x y
  from_rising p = record { path = p.path; links = p.links; order = in_part es f p.path (rising_strict p.path p.rising) p.members }

  pub causal_rising : CausalPath es x y ↔ RisingPath es x y
  causal_rising = (to_rising, from_rising)

  pub rising_by : (t : ℕ) → PathBy es t x y ↔ RisingBy es t x y
  unfolding to_rising from_rising
  rising_by t = (λ (p, b). (to_rising p, b), λ (p, b). (from_rising p, b))

  pub rising_from : (t : ℕ) → RisingFrom es t x y → (p : CausalPath es x y) × All (λ e. t ≤ e.time) p.path
  unfolding from_rising
  rising_from t (p, b) = (from_rising p, b)
