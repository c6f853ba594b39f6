-- Passes until nothing changes: each one marks a place more, so as many as there are places are enough.
use Prim.Native.Nat.{ℕ, zero, suc, ◌≤◌, ◌<◌}
use native.Mathlib.Omega.{arith}
use native.Mathlib.Decide.{ℕ_discrete}
use mathlib.Core.Path.{◌≡◌, refl, sym, ◌∙◌, ap, subst}
use mathlib.Core.Logic.{◌⊎◌, inl, inr}
use mathlib.Core.List.Memᴰ
use mathlib.Core.List.{List, [], ◌∷◌, Memᴰ}
use lib.ListN.{length, set}
use Rattle.rules.specs.Marks.{Arc, follow, pass, passes}
use Rattle.closure.specs.Arcs.{Marked, EndBelow, ClosedUnder, unmarked}
use Rattle.closure.proofs.Marks.{set_marked, unmarked-set}
use Rattle.closure.proofs.Passes.{FollowCase, follow_cases, length-follow, length-pass}

-- an arc changes nothing, and then its end is marked if its beginning is; or fewer places are not marked
pub follow_less : (a : Arc) (m : List ℕ) → a.to < length m → ((follow a m ≡ m) × (Marked m a.from → Marked m a.to)) ⊎ (unmarked (follow a m) < unmarked m)
follow_less a m l = go (follow_cases a m)
  where
    by : follow a m ≡ set m a.to 1 → Dec (Marked m a.to) → ((follow a m ≡ m) × (Marked m a.from → Marked m a.to)) ⊎ (unmarked (follow a m) < unmarked m)
    by q (yes o) = inl (q ∙ set_marked m a.to o, λ _. o)
    by q (no o) = inr (rw q (omega (arith, unmarked-set m a.to l o)))

    go : FollowCase a m (follow a m) → ((follow a m ≡ m) × (Marked m a.from → Marked m a.to)) ⊎ (unmarked (follow a m) < unmarked m)
    go (inl c) = by c.1 (ℕ_discrete _ _)
    go (inr c) = inl (c.1, λ o. absurd (c.0 o))

closed_cons : (a : Arc) (arcs : List Arc) (m : List ℕ) → (Marked m a.from → Marked m a.to) → ClosedUnder arcs m → ClosedUnder (a ∷ arcs) m
closed_cons a arcs m f c x k o = by (Memᴰ.cases_cons k)
  where
    by : (x ≡ a) ⊎ Memᴰ x arcs → Marked m x.to
    by (inl q) = rw q (f (rw q at o))
    by (inr k') = c x k' o

-- a pass changes nothing, and the marks are closed under the arcs; or fewer places are not marked
abbrev pub Steady : List Arc → List ℕ → Type 0
Steady arcs m = (pass arcs m ≡ m) × ClosedUnder arcs m

pass_less : (arcs : List Arc) (m : List ℕ) → EndBelow (length m) arcs → Steady arcs m ⊎ (unmarked (pass arcs m) < unmarked m)
unfolding pass
pass_less [] m l = inl (refl, λ a k. absurd (Memᴰ.not-nil k))
pass_less (a ∷ as') m l =
    go (follow_less a m (l a (Memᴰ.head refl))) (pass_less as' m (λ x k. l x (Memᴰ.tail k)))
    (pass_less as' (follow a m) (λ x k. omega (arith, l x (Memᴰ.tail k), length-follow a m)))
  where
    go : ((follow a m ≡ m) × (Marked m a.from → Marked m a.to)) ⊎ (unmarked (follow a m) < unmarked m)
        → Steady as' m ⊎ (unmarked (pass as' m) < unmarked m)
        → Steady as' (follow a m) ⊎ (unmarked (pass as' (follow a m)) < unmarked (follow a m))
        → ((pass as' (follow a m) ≡ m) × ClosedUnder (a ∷ as') m) ⊎ (unmarked (pass as' (follow a m)) < unmarked m)
    go (inl c) (inl d) r = inl (ap (pass as') c.0 ∙ d.0, closed_cons a as' m c.1 d.1)
    go (inl c) (inr d) r = inr (rw c.0 d)
    go (inr c) d (inl r) = inr (rw r.0 c)
    go (inr c) d (inr r) = inr (omega arith)

passes_steady : (n : ℕ) (arcs : List Arc) (m : List ℕ) → pass arcs m ≡ m → passes n arcs m ≡ m
unfolding passes
passes_steady zero arcs m q = refl
passes_steady (suc n) arcs m q = ap (passes n arcs) q ∙ passes_steady n arcs m q

-- as many passes as places are not marked are enough
pub passes_enough : (n : ℕ) (arcs : List Arc) (m : List ℕ) → EndBelow (length m) arcs → unmarked m ≤ n → Steady arcs (passes n arcs m)
unfolding passes
passes_enough zero arcs m l u = go (pass_less arcs m l)
  where
    go : Steady arcs m ⊎ (unmarked (pass arcs m) < unmarked m) → Steady arcs m
    go (inl c) = c
    go (inr c) = absurd (omega arith)
passes_enough (suc n) arcs m l u = go (pass_less arcs m l) (λ h. passes_enough n arcs (pass arcs m) (λ x k. omega (arith, l x k, length-pass arcs m)) h)
  where
    go : Steady arcs m ⊎ (unmarked (pass arcs m) < unmarked m) → (unmarked (pass arcs m) ≤ n → Steady arcs (passes n arcs (pass arcs m))) → Steady arcs (passes n arcs (pass arcs m))
    go (inl c) r = subst (Steady arcs) (sym (ap (passes n arcs) c.0 ∙ passes_steady n arcs m c.0)) c
    go (inr c) r = r (omega arith)
