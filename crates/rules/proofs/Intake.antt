-- The intake (document 01, "Traces"): as computed it is the document's, and there is only one.
use Prim.Native.Nat.{ℕ, zero, suc, max, ◌≤◌, ◌<◌}
use native.Mathlib.Omega.{arith}
use native.Mathlib.Decide.{ℕ_discrete, dec_le}
use mathlib.Core.Path.{◌≡◌, refl, sym, ◌∙◌, ap, subst}
use mathlib.Core.Logic.{◌⊎◌, inl, inr, ⊎_elim}
use mathlib.Core.Bool.{Bool, true, false, ◌&&◌, cond}
use mathlib.Core.List.Memᴰ
use mathlib.Core.List.{List, [], ◌∷◌, Memᴰ}
use lib.Dec.{eqb, leb}
use borrow.Author.Tests.{eqb-true, eqb-false, leb-true, leb-false}
use Rattle.rules.specs.Trail.{Trail}
use Rattle.rules.specs.Start.{Enters, IsIntake, times_into, greatest_or, intake_of}

-- whether a = s and x ≤ t, with the test that says so
abbrev pub ByCase : ℕ → ℕ → ℕ → ℕ → Type 0
ByCase a s x t = ((a ≡ s) × (x ≤ t) × ((eqb a s && leb x t) ≡ true)) ⊎ ((a ≡ s → x ≤ t → ⊥) × ((eqb a s && leb x t) ≡ false))

pub by_cases : (a s x t : ℕ) → ByCase a s x t
by_cases a s x t = go (eqb a s) refl (leb x t) refl
  where
    go : (b : Bool) → eqb a s ≡ b → (c : Bool) → leb x t ≡ c → ((a ≡ s) × (x ≤ t) × ((b && c) ≡ true)) ⊎ ((a ≡ s → x ≤ t → ⊥) × ((b && c) ≡ false))
    go true q true r = inl (eqb-true _ _ q, leb-true _ _ r, refl)
    go true q false r = inr ((λ _ l. omega (arith, leb-false x t r)), refl)
    go false q c r = inr ((λ z _. eqb-false _ _ q z), refl)

-- the greatest of a list that has some stands in it, and none is above it
abbrev Greatest : ℕ → List ℕ → Type 0
Greatest g ts = Memᴰ g ts × ((y : ℕ) → Memᴰ y ts → y ≤ g)

greatest_cons : (d t : ℕ) (ts : List ℕ) → Greatest (greatest_or d (t ∷ ts)) (t ∷ ts)
greatest_cons d t [] = (Memᴰ.head refl, λ y k. let q = Memᴰ.eq_of_singleton k in omega arith)
greatest_cons d t (u ∷ ts) = go (greatest_or d (u ∷ ts)) (greatest_cons d u ts)
  where
    go : (g : ℕ) → Greatest g (u ∷ ts) → Greatest (max t g) (t ∷ (u ∷ ts))
    go g (m, b) = (at (dec_le g t), λ y k. by y (Memᴰ.cases_cons k))
      where
        at : Dec (g ≤ t) → Memᴰ (max t g) (t ∷ (u ∷ ts))
        at (yes l) = let q : max t g ≡ t = omega arith in Memᴰ.head q
        at (no l) = let q : g ≡ max t g = omega arith in Memᴰ.tail (subst (λ z. Memᴰ z (u ∷ ts)) q m)

        by : (y : ℕ) → (y ≡ t) ⊎ Memᴰ y (u ∷ ts) → y ≤ max t g
        by y (inl q) = omega arith
        by y (inr k) = omega (arith, b y k)

module _ (T : Trail) (s t : ℕ) where
  abbrev times : ℕ → List ℕ
  times n = times_into T.edge s t n

  abbrev Entered : ℕ → Type 0
  Entered y = (k : ℕ) × Enters T s t k × (y ≡ (T.edge k).time)

  abbrev Case : ℕ → Type 0
  Case k = ByCase (T.edge k).to.0 s (T.edge k).time t

  abbrev test : ℕ → Bool
  test k = eqb (T.edge k).to.0 s && leb (T.edge k).time t

  enters_time : (n k : ℕ) → k < n → Enters T s t k → Memᴰ (T.edge k).time (times n)
  unfolding times_into
  enters_time zero k l e = absurd (omega arith)
  enters_time (suc n) k l e = go (by_cases _ _ _ _) (ℕ_discrete k n) (λ h. enters_time n k h e)
    where
      go : Case n → Dec (k ≡ n) → (k < n → Memᴰ (T.edge k).time (times n)) → Memᴰ (T.edge k).time (cond (test n) ((T.edge n).time ∷ times n) (times n))
      go (inl c) (yes q) ih = rw c.2 (Memᴰ.head (ap (λ j. (T.edge j).time) q))
      go (inl c) (no q) ih = rw c.2 (Memᴰ.tail (ih (omega arith)))
      go (inr c) (yes q) ih = let d = subst (Enters T s t) q e in absurd (c.0 d.1 d.2)
      go (inr c) (no q) ih = rw c.1 (ih (omega arith))

  time_enters : (n : ℕ) → n ≤ T.counts.edges → (y : ℕ) → Memᴰ y (times n) → Entered y
  unfolding times_into
  time_enters zero l y m = absurd (Memᴰ.not-nil m)
  time_enters (suc n) l y m = go (by_cases _ _ _ _) m (time_enters n (omega arith) y)
    where
      go : Case n → Memᴰ y (cond (test n) ((T.edge n).time ∷ times n) (times n)) → (Memᴰ y (times n) → Entered y) → Entered y
      go (inl c) m ih = ⊎_elim (λ q. (n, (l, c.0, c.1), q)) ih (Memᴰ.cases_cons (rw c.2 at m))
      go (inr c) m ih = ih (rw c.1 at m)

  pub intake_of_is : IsIntake T s t (intake_of T s t)
  unfolding intake_of
  intake_of_is = go (times T.counts.edges) refl
    where
      in_times : (ts : List ℕ) → times T.counts.edges ≡ ts → (k : ℕ) → Enters T s t k → Memᴰ (T.edge k).time ts
      in_times ts q k e = subst (Memᴰ (T.edge k).time) q (enters_time T.counts.edges k e.0 e)

      go : (ts : List ℕ) → times T.counts.edges ≡ ts → IsIntake T s t (greatest_or (T.version s).start ts)
      go [] q = IsIntake.start (λ k e. Memᴰ.not-nil (in_times [] q k e)) refl
      go (u ∷ ts) q =
          let g = greatest_cons (T.version s).start u ts in
          let o = time_enters T.counts.edges (omega arith) _ (subst (Memᴰ _) (sym q) g.0) in
          IsIntake.greatest o.0 o.1 o.2 (λ j e. g.1 (T.edge j).time (in_times (u ∷ ts) q j e))

  pub intake_one : {i j : ℕ} → IsIntake T s t i → IsIntake T s t j → i ≡ j
  intake_one (IsIntake.greatest k e q b) (IsIntake.greatest l d r c) = omega (arith, b l d, c k e)
  intake_one (IsIntake.greatest k e q b) (IsIntake.start n r) = absurd (n k e)
  intake_one (IsIntake.start n q) (IsIntake.greatest l d r c) = absurd (n l d)
  intake_one (IsIntake.start n q) (IsIntake.start o r) = q ∙ sym r
