-- Passes over arcs: one arc, two lists in turn, and a pass that adds no mark.
use Prim.Native.Nat.{ℕ}
use native.Mathlib.Omega.{arith}
use mathlib.Core.Path.{◌≡◌, refl, sym, ◌∙◌, ap}
use mathlib.Core.Logic.{◌⊎◌, inl, inr}
use mathlib.Core.Bool.{Bool, true, false, ◌&&◌, ◌||◌, not, cond, or-false, or_assoc}
use mathlib.Mathlib.Data.Bool.Basic.{or-eq-false-eq-eq-false-and-eq-false}
use mathlib.Core.List.Memᴰ
use mathlib.Core.List.{List, [], ◌∷◌, ◌++◌, Memᴰ}
use lib.ListN.{get_or, set}
use lib.Dec.{eqb}
use borrow.Author.Tests.{eqb-true}
use Rattle.rules.specs.Marks.{Arc, arc, follow, pass, passes}
use Rattle.closure.proofs.Marks.{set_marked}
use Rattle.closure.proofs.Passes.{keeps_passes}
use Rattle.marks.specs.MarkedIf.{MarkedIf}
use Rattle.passes.specs.Followed.{fires, changes, Followed}
use Rattle.passes.specs.TraceArcs.{when}

-- an arc that adds no mark changes nothing
follow_still : (a : Arc) (m : List ℕ) → fires a m ≡ false → follow a m ≡ m
unfolding fires follow
follow_still a m h = go (eqb (get_or m a.from 0) 1) (eqb (get_or m a.to 0) 1) refl h
  where
    go : (f b : Bool) → eqb (get_or m a.to 0) 1 ≡ b → f && not b ≡ false → cond f (set m a.to 1) m ≡ m
    go true true q z = set_marked m a.to (eqb-true _ _ q)
    go true false q z = absurd (let y : ◌≡◌ {A = ℕ} 0 1 = cc in omega arith)
    go false b q z = refl

-- one arc
module _ (m : List ℕ) (f t : ℕ) where
  pub arc_followed : (r c : Bool) (m' : List ℕ) → r ≡ eqb (get_or m f 0) 1 → MarkedIf r t m c m' → Followed (arc f t ∷ []) m c m'
  unfolding changes pass fires follow
  arc_followed r c m' q w = record {
    changed = w.changed ∙ ap (λ b. b && not (eqb (get_or m t 0) 1)) q ∙ sym (or-false (fires (arc f t) m));
    marks = w.marks ∙ ap (λ b. cond b (set m t 1) m) q;
  }

  arc_still : fires (arc f t) m ≡ false → Followed (arc f t ∷ []) m false m
  unfolding changes pass
  arc_still h = record { changed = sym (or-false (fires (arc f t) m) ∙ h); marks = sym (follow_still (arc f t) m h) }

  pub arc_marked : (r : Bool) → r ≡ eqb (get_or m t 0) 1 → r ≡ true → Followed (arc f t ∷ []) m false m
  unfolding fires
  arc_marked r q h = arc_still (go (eqb (get_or m f 0) 1) (eqb (get_or m t 0) 1) (sym q ∙ h))
    where
      go : (x b : Bool) → b ≡ true → x && not b ≡ false
      go true b e = rw e
      go false b e = refl

  pub arc_idle : (r : Bool) → r ≡ eqb (get_or m f 0) 1 → r ≡ false → Followed (arc f t ∷ []) m false m
  unfolding fires
  arc_idle r q h = arc_still (rw (← q, h))

-- no arc
pub followed_none : (m : List ℕ) → Followed [] m false m
unfolding changes pass
followed_none m = record { changed = refl; marks = refl }

-- an arc where a test holds, that adds no mark
pub when_still : (b : Bool) (a : Arc) (m : List ℕ) → Followed (a ∷ []) m false m → Followed (when b a) m false m
when_still true a m f = f
when_still false a m f = followed_none m

-- two lists in turn

pub pass-append : (xs ys : List Arc) (m : List ℕ) → pass (xs ++ ys) m ≡ pass ys (pass xs m)
unfolding pass
pass-append [] ys m = refl
pass-append (x ∷ xs) ys m = pass-append xs ys (follow x m)

pub changes-append : (xs ys : List Arc) (m : List ℕ) → changes (xs ++ ys) m ≡ (changes xs m || changes ys (pass xs m))
unfolding changes pass
changes-append [] ys m = refl
changes-append (x ∷ xs) ys m = ap (λ b. fires x m || b) (changes-append xs ys (follow x m)) ∙ sym (or_assoc (fires x m) (changes xs (follow x m)) _)

pub followed_append : (xs ys : List Arc) (m m' m'' : List ℕ) (c d e : Bool) → Followed xs m c m' → Followed ys m' d m'' → e ≡ c || d → Followed (xs ++ ys) m e m''
followed_append xs ys m m' m'' c d e f g q =
    let p : m'' ≡ pass ys (pass xs m) = g.marks ∙ ap (pass ys) f.marks in
    let r : d ≡ changes ys (pass xs m) = g.changed ∙ ap (changes ys) f.marks in
    record { changed = q ∙ (λ i. f.changed i || r i) ∙ sym (changes-append xs ys m); marks = p ∙ sym (pass-append xs ys m) }

-- a pass that adds no mark changes nothing
module _ (arcs : List Arc) (m : List ℕ) (h : changes arcs m ≡ false) where
  unfired : (xs : List Arc) → changes xs m ≡ false → (a : Arc) → Memᴰ a xs → follow a m ≡ m
  unfolding changes
  unfired [] z a k = absurd (Memᴰ.not-nil k)
  unfired (x ∷ xs) z a k = go ((or-eq-false-eq-eq-false-and-eq-false (fires x m) (changes xs (follow x m))).0 z) (Memᴰ.cases_cons k) (λ y k'. unfired xs y a k')
    where
      go : (fires x m ≡ false) × (changes xs (follow x m) ≡ false) → (a ≡ x) ⊎ Memᴰ a xs → (changes xs m ≡ false → Memᴰ a xs → follow a m ≡ m) → follow a m ≡ m
      go (p, q) (inl e) r = rw e (follow_still x m p)
      go (p, q) (inr k') r = r (ap (changes xs) (sym (follow_still x m p)) ∙ q) k'

  -- nor do passes over some of its arcs
  pub passes_still : (xs : List Arc) → ((a : Arc) → Memᴰ a xs → Memᴰ a arcs) → (n : ℕ) → passes n xs m ≡ m
  passes_still xs i n = keeps_passes (λ l. l ≡ m) xs (λ a k l q. ap (follow a) q ∙ unfired arcs h a (i a k)) n m refl
