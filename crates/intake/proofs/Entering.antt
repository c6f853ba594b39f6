-- The least intake of the marked versions by the edges up to the last that enters one of them, and by those before it.
use Prim.Native.Nat.{ℕ, zero, suc, min, ◌≤◌}
use native.Mathlib.Omega.{arith}
use native.Mathlib.Decide.{ℕ_discrete}
use mathlib.Core.Path.{◌≡◌, refl, sym, ◌∙◌, subst}
use mathlib.Core.Logic.{◌⊎◌, inl, inr}
use mathlib.Core.Bool.{Bool, true, false, ◌&&◌, cond, false≢true}
use mathlib.Core.List.{List}
use lib.ListN.{get_or, set}
use lib.Seq.{get_or-set_same, get_or-set_other}
use lib.Dec.{eqb, leb}
use borrow.Author.Tests.{eqb-true, eq-eqb, ne_eqb}
use Rattle.rows.specs.declared.VersionRow.{VersionRow}
use Rattle.rows.specs.declared.EdgeRow.{EdgeRow}
use Rattle.closure.specs.Arcs.{Marked}
use Rattle.closure.proofs.Marks.{marked_in}
use Rattle.intake.specs.Intake.{enters_by, last_intake, enters_marked, up_to_entering, LeastIntake}
use Rattle.intake.proofs.IntakeLoop.{enters_not}
use Rattle.intake.proofs.Least.{least-same, least_more}

module _ (m : List ℕ) (t : ℕ) (e : EdgeRow) where
  pub enters-same : enters_marked m t e ≡ true → Marked m e.to.0 × (enters_by e.to.0 t e ≡ true)
  unfolding enters_marked enters_by
  enters-same h = go (eqb (get_or m e.to.0 0) 1) refl (leb e.time t) refl h
    where
      go : (x : Bool) → eqb (get_or m e.to.0 0) 1 ≡ x → (y : Bool) → leb e.time t ≡ y → x && y ≡ true → Marked m e.to.0 × ((eqb e.to.0 e.to.0 && leb e.time t) ≡ true)
      go true p true q z = (eqb-true _ _ p, rw (eq-eqb e.to.0 e.to.0 refl, q))
      go true p false q z = absurd (false≢true z)
      go false p y q z = absurd (false≢true z)

  enters_late : enters_marked m t e ≡ false → (v : ℕ) → Marked m v → enters_by v t e ≡ false
  unfolding enters_marked enters_by
  enters_late h v o = go (ℕ_discrete e.to.0 v)
    where
      go : Dec (e.to.0 ≡ v) → (eqb e.to.0 v && leb e.time t) ≡ false
      go (yes q) = let z : Marked m e.to.0 = subst (Marked m) (sym q) o in rw (eq-eqb e.to.0 v q) (rw (eq-eqb (get_or m e.to.0 0) 1 z) at h)
      go (no q) = rw (ne_eqb e.to.0 v q)

module _ (W : ℕ → VersionRow) (E : ℕ → EdgeRow) (t : ℕ) where
  intake_here : (k v : ℕ) → enters_by v t (E k) ≡ true → last_intake W E v t (suc k) ≡ (E k).time
  unfolding last_intake
  intake_here k v h = rw h

  intake_before : (k v : ℕ) → enters_by v t (E k) ≡ false → last_intake W E v t k ≡ last_intake W E v t (suc k)
  unfolding last_intake
  intake_before k v h = rw h

  module _ (m : List ℕ) where
    -- an edge that enters none of them
    least_past : (k b r : ℕ) → enters_marked m t (E k) ≡ false → LeastIntake W E t k m b r → LeastIntake W E t (suc k) m b r
    least_past k b r h o =
        least-same (Marked m) (Marked m) (λ v. last_intake W E v t k) (λ v. last_intake W E v t (suc k)) b r (λ v p. p) (λ v p. intake_before k v (enters_late m t (E k) h v p)) (λ v p. p) o

    pub least-up : (n b r : ℕ) → LeastIntake W E t (up_to_entering E m t n) m b r → LeastIntake W E t n m b r
    unfolding up_to_entering
    least-up zero b r o = o
    least-up (suc k) b r o = go (enters_marked m t (E k)) refl (λ z. least-up k b r z) o
      where
        go : (q : Bool) → enters_marked m t (E k) ≡ q → (LeastIntake W E t (up_to_entering E m t k) m b r → LeastIntake W E t k m b r)
            → LeastIntake W E t (cond q (suc k) (up_to_entering E m t k)) m b r → LeastIntake W E t (suc k) m b r
        go true z ih x = x
        go false z ih x = least_past k b r z (ih x)

    -- an edge that enters one, which is then taken away
    pub least-taken : (k b r : ℕ) → enters_marked m t (E k) ≡ true → LeastIntake W E t k (set m (E k).to.0 0) (min b (E k).time) r
        → LeastIntake W E t (suc k) m b r
    least-taken k b r h o =
        least_more (Marked m) (Marked (set m x 0)) (λ v. last_intake W E v t k) (λ v. last_intake W E v t (suc k)) b r
        (λ v q. sym (get_or-set_other m x v 0 0 (apart v q)) ∙ q)
        (λ v q. intake_before k v (sym (enters_not v t (E k) (λ z. apart v q (sym z)))))
        x is.0 (λ v p. part v p (ℕ_discrete v x))
        (subst (λ y. LeastIntake W E t k (set m x 0) (min b y) r) (sym (intake_here k x is.1)) o)
      where
        x : ℕ
        x = (E k).to.0

        is : Marked m x × (enters_by x t (E k) ≡ true)
        is = enters-same m t (E k) h

        apart : (v : ℕ) → Marked (set m x 0) v → v ≡ x → ⊥
        apart v q z = omega (arith, subst (Marked (set m x 0)) z q, get_or-set_same m x 0 0 (marked_in m x is.0))

        part : (v : ℕ) → Marked m v → Dec (v ≡ x) → (v ≡ x) ⊎ Marked (set m x 0) v
        part v p (yes z) = inl z
        part v p (no z) = inr (get_or-set_other m x v 0 0 z ∙ p)

-- how far it is
module _ (E : ℕ → EdgeRow) (m : List ℕ) (t : ℕ) where
  pub up_le : (n : ℕ) → up_to_entering E m t n ≤ n
  unfolding up_to_entering
  up_le zero = omega arith
  up_le (suc k) = go (enters_marked m t (E k)) (up_le k)
    where
      go : (q : Bool) → up_to_entering E m t k ≤ k → cond q (suc k) (up_to_entering E m t k) ≤ suc k
      go true l = omega arith
      go false l = omega arith

  pub up-enters : (n j : ℕ) → up_to_entering E m t n ≡ suc j → enters_marked m t (E j) ≡ true
  unfolding up_to_entering
  up-enters zero j e = absurd (omega arith)
  up-enters (suc k) j e = go (enters_marked m t (E k)) refl (λ z. up-enters k j z) e
    where
      go : (q : Bool) → enters_marked m t (E k) ≡ q → (up_to_entering E m t k ≡ suc j → enters_marked m t (E j) ≡ true) → cond q (suc k) (up_to_entering E m t k) ≡ suc j
          → enters_marked m t (E j) ≡ true
      go true z ih p = let q : k ≡ j = omega arith in rw (← q) z
      go false z ih p = ih p
