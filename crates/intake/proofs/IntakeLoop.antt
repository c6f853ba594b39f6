-- The search for the last edge that enters one version: it stands at k.
use Rattle.std.proofs.Common.{ℕ, zero, suc, ◌-◌, ◌<◌, ◌≡◌, refl, Bool, false, cond, leb, arith}
use borrow.Author.Tests.{eq-eqb, ne_eqb}
use Rattle.rows.specs.declared.VersionRow.{VersionRow}
use Rattle.rows.specs.declared.EdgeRow.{EdgeRow}
use Rattle.intake.specs.Intake.{enters_by, last_intake}

module _ (s t : ℕ) (e : EdgeRow) where
  pub enters_by_lem : (b : Bool) → e.to.0 ≡ s → b ≡ leb e.time t → b ≡ enters_by s t e
  unfolding enters_by
  enters_by_lem b h z = rw (eq-eqb e.to.0 s h) z

pub enters_not : (s t : ℕ) (e : EdgeRow) → (e.to.0 ≡ s → ⊥) → false ≡ enters_by s t e
unfolding enters_by
enters_not s t e h = rw (ne_eqb e.to.0 s h)

pub intake_last : (W : ℕ → VersionRow) (E : ℕ → EdgeRow) (s t k : ℕ) → 0 < k
    → last_intake W E s t k ≡ cond (enters_by s t (E (k - 1))) (E (k - 1)).time (last_intake W E s t (k - 1))
unfolding last_intake
intake_last W E s t zero l = absurd (omega arith)
intake_last W E s t (suc k) l = let e : suc k - 1 ≡ k = omega arith in rw e refl
