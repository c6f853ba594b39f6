-- The search for the last edge that enters a marked version: it stands at k.
use Rattle.std.proofs.Common.{ℕ, zero, suc, ◌-◌, ◌<◌, ◌≡◌, refl, cond, List, arith}
use Rattle.rows.specs.declared.EdgeRow.{EdgeRow}
use Rattle.intake.specs.Intake.{enters_marked, up_to_entering}

pub entering_last : (E : ℕ → EdgeRow) (m : List ℕ) (t k : ℕ) → 0 < k
    → up_to_entering E m t k ≡ cond (enters_marked m t (E (k - 1))) k (up_to_entering E m t (k - 1))
unfolding up_to_entering
entering_last E m t zero l = absurd (omega arith)
entering_last E m t (suc k) l = let e : suc k - 1 ≡ k = omega arith in rw e refl
