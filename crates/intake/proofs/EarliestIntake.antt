-- The loop over the edges that enter marked versions: the least of b and of the intakes, by k edges, of those still marked is the least of all.
use Rattle.std.proofs.Common.{ℕ, suc, ◌+◌, ◌-◌, ◌≤◌, ◌<◌, ◌≡◌, min, sym, subst, true, List, set, arith}
use Rattle.rows.specs.declared.VersionRow.{VersionRow}
use Rattle.rows.specs.declared.EdgeRow.{EdgeRow}
use Rattle.rules.specs.Marks.{ones}
use Rattle.closure.specs.Arcs.{Marked}
use Rattle.intake.specs.Intake.{last_intake, enters_marked, up_to_entering, Taken, LeastStart, LeastIntake}
use Rattle.intake.proofs.Least.{least_empty}
use Rattle.intake.proofs.Pending.{ones_unmark, ones_none}
use Rattle.intake.proofs.Entering.{enters-same, least-up, least-taken, up_le, up-enters}

pub record Seeks (W : ℕ → VersionRow) (E : ℕ → EdgeRow) (t d : ℕ) (m₀ : List ℕ) (b₀ k : ℕ) (m : List ℕ) (b left : ℕ) : Type 0 where
  pub rest : (r : ℕ) → LeastIntake W E t k m b r → LeastIntake W E t d m₀ b₀ r
  pub few : ones m ≤ left

module _ (W : ℕ → VersionRow) (E : ℕ → EdgeRow) (t d : ℕ) (m₀ : List ℕ) (b₀ : ℕ) where
  pub seeks_start : (n : ℕ) → ones m₀ ≤ n → Seeks W E t d m₀ b₀ d m₀ b₀ (n - 0)
  seeks_start n l = record { rest = (λ r o. o); few = omega arith }

  module _ (k : ℕ) (m : List ℕ) (b n x : ℕ) (i : Seeks W E t d m₀ b₀ k m b (n - x)) where
    -- all are found
    pub seeks_done : n ≤ x → LeastIntake W E t d m₀ b₀ b
    seeks_done l = i.rest b (least_empty (Marked m) _ b (ones_none m (omega (arith, i.few))))

    -- no edge is left that enters one
    pub seeks_end : up_to_entering E m t k ≡ 0 → (r : ℕ) → LeastStart W m b r → LeastIntake W E t d m₀ b₀ r
    unfolding last_intake
    seeks_end q r o = i.rest r (least-up W E t m k b r (subst (λ j. LeastIntake W E t j m b r) (sym q) o))

    -- edge j is the last that does
    module _ (j : ℕ) (q : up_to_entering E m t k ≡ suc j) where
      pub seeks_low : k ≤ d → j ≤ d
      seeks_low l = omega (arith, up_le E m t k)

      pub seeks_in : (cap : ℕ) → k ≤ d → d ≤ cap → j < cap
      seeks_in cap l h = omega (arith, up_le E m t k)

      module _ (m' : List ℕ) (b' : ℕ) (w : Taken (E j) m b m' b') where
        at_one : enters_marked m t (E j) ≡ true
        at_one = up-enters E m t k j q

        pub seeks_next : Seeks W E t d m₀ b₀ j m' b' (n - (x + 1))
        seeks_next = record {
          rest = (λ r o. i.rest r (least-up W E t m k b r (subst (λ j. LeastIntake W E t j m b r) (sym q) (least-taken W E t m j b r at_one (moved r o)))));
          few = rw w.marks (omega (arith, ones_unmark m (E j).to.0 (enters-same m t (E j) at_one).0, i.few));
        }
          where
            moved : (r : ℕ) → LeastIntake W E t j m' b' r → LeastIntake W E t j (set m (E j).to.0 0) (min b (E j).time) r
            moved r o = subst (λ x. LeastIntake W E t j (set m (E j).to.0 0) x r) w.earlier (subst (λ l. LeastIntake W E t j l b' r) w.marks o)
