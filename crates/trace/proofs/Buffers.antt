-- The buffers that a trace leaves, where `w` has the marks of the versions in use.
use Prim.Native.Nat.{ℕ}
use mathlib.Core.Path.{◌≡◌, sym, ◌∙◌, ap, subst}
use mathlib.Core.List.{List, ◌++◌}
use lib.ListN.{length, take, drop}
use lib.Seq.{take_at, drop_at}
use Rattle.rules.specs.Trail.{Trail}
use Rattle.rules.specs.Marks.{marks_below, overlaid}
use Rattle.closure.proofs.Entities.{length-marks_below}
use Rattle.closure.proofs.Checked.{versions_fit, edges_fit, work_fits, marks-fit}
use Rattle.marks.proofs.Bytes.{part_count, whole_fits}
use Rattle.marks.specs.Owners.{EntitiesMarked}

module _ (T : Trail) (w work : List ℕ) (l : length w ≡ T.counts.versions) (part : List ℕ) (p : part ≡ w) where
  pub left_work : part ++ drop T.counts.versions work ≡ overlaid w work
  left_work = ap (λ x. x ++ drop T.counts.versions work) p ∙ ap (λ j. w ++ drop j work) (sym l)

  pub left-marks : (marks marks' : List ℕ) (n : ℕ) → EntitiesMarked T (take T.counts.versions (part ++ drop T.counts.versions work)) marks n marks'
      → EntitiesMarked T w marks n marks'
  left-marks marks marks' n e = subst (λ v. EntitiesMarked T v marks n marks') (take_at part _ T.counts.versions (ap length p ∙ l) ∙ p) e

-- the bytes of the entities in use are written whatever they were
pub over_marks : (T : Trail) (w seen marks marks' : List ℕ) (n : ℕ) → length seen ≡ T.counts.entities
    → EntitiesMarked T w (seen ++ drop T.counts.entities marks) n marks' → EntitiesMarked T w marks n marks'
over_marks T w seen marks marks' n l e = record { count = e.count; marks = e.marks ∙ rw q (ap (λ x. g ++ x) (drop_at seen (drop T.counts.entities marks) T.counts.entities l)) }
  where
    g : List ℕ
    g = marks_below T.version w T.counts.versions T.counts.entities

    q : length g ≡ T.counts.entities
    q = length-marks_below T.version w T.counts.versions T.counts.entities

-- what a trace asks of the buffers, where the checks pass
pub ruleset room = (versions_fit, edges_fit, work_fits, marks-fit, part_count, whole_fits)
