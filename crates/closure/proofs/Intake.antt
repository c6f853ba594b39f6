-- The intake of a forward trace is the time of the last edge that enters, else the start.
use Prim.Native.Nat.{ℕ, zero, suc, ◌≤◌, ◌<◌}
use native.Mathlib.Omega.{arith}
use native.Mathlib.Decide.{ℕ_discrete, dec_le}
use mathlib.Core.Path.{◌≡◌, refl}
use Rattle.rules.specs.Trail.{Trail}
use Rattle.rules.specs.Start.{Enters, IsIntake, intake_of}
use Rattle.rules.proofs.Intake.{intake_of_is, intake_one}
use Rattle.soundness.specs.Facts.{RowFacts}

module _ (T : Trail) (s t : ℕ) where
  pub intake_start : ((k : ℕ) → Enters T s t k → ⊥) → intake_of T s t ≡ (T.version s).start
  intake_start n = intake_one T s t (intake_of_is T s t) (IsIntake.start n refl)

-- edge times do not fall
pub times_ordered : (T : Trail) → RowFacts T → (j k : ℕ) → j ≤ k → k < T.counts.edges → (T.edge j).time ≤ (T.edge k).time
times_ordered T f j zero l h = let q : j ≡ 0 = omega arith in rw q (omega arith)
times_ordered T f j (suc k) l h = go (ℕ_discrete j (suc k)) (λ i. times_ordered T f j k i (omega arith))
  where
    go : Dec (j ≡ suc k) → (j ≤ k → (T.edge j).time ≤ (T.edge k).time) → (T.edge j).time ≤ (T.edge (suc k)).time
    go (yes q) r = rw q (omega arith)
    go (no q) r = omega (arith, r (omega arith), f.times_ordered k h)

-- so the last edge that enters gives the intake
pub intake_last : (T : Trail) → RowFacts T → (s t k : ℕ) → Enters T s t k → ((j : ℕ) → k < j → Enters T s t j → ⊥) → intake_of T s t ≡ (T.edge k).time
intake_last T f s t k e n = intake_one T s t (intake_of_is T s t) (IsIntake.greatest k e refl (λ j d. go j d (dec_le j k)))
  where
    go : (j : ℕ) → Enters T s t j → Dec (j ≤ k) → (T.edge j).time ≤ (T.edge k).time
    go j d (yes l) = times_ordered T f j k l e.0
    go j d (no l) = absurd (n j (omega arith) d)
