-- What an entity marks and gives alone in a forward trace, by its start version as computed, where the rows are as in sound tables.
use Prim.Native.Nat.{ℕ, ◌≤◌, ◌<◌}
use mathlib.Core.Path.{◌≡◌, sym, subst}
use mathlib.Core.Logic.{◌↔◌}
use mathlib.Core.List.{List}
use Rattle.rules.specs.Trail.{Trail, none}
use Rattle.rules.specs.Start.{start_of, IsIntake, intake_of}
use Rattle.rules.specs.Members.{IsEarliest}
use Rattle.rules.specs.Forward.{ForwardMarks, MarkedFrom, IntakeFrom, forward_intake}
use Rattle.rules.proofs.Start.{start_one}
use Rattle.rules.proofs.Intake.{intake_of_is, intake_one}
use Rattle.rules.proofs.Members.{of_any_iff, earliest-same, earliest_is}
use Rattle.soundness.specs.Facts.{RowFacts}
use Rattle.closure.specs.Arcs.{AllBelow}
use Rattle.closure.proofs.StartVersion.{start_of_is}

module _ (T : Trail) (f : RowFacts T) (few : T.counts.versions ≤ none) (t : ℕ) where
  module _ (u : ℕ) (h : u < T.counts.entities) where
    pub marked_from : (w : ℕ) → MarkedFrom T t u w ↔ ForwardMarks T (start_of T u t) w
    marked_from w = (
      λ z. subst (λ (s : ℕ). ForwardMarks T s w) (start_one z.1 (start_of_is T f few u t h)) z.2,
      λ d. (start_of T u t, start_of_is T f few u t h, d),
    )

    pub intake_from : (i : ℕ) → (i ≡ intake_of T (start_of T u t) t) ↔ IntakeFrom T t u i
    intake_from i = (
      λ q. (start_of T u t, start_of_is T f few u t h, subst (IsIntake T (start_of T u t) t) (sym q) (intake_of_is T (start_of T u t) t)),
      λ z. intake_one T (start_of T u t) t (subst (λ (s : ℕ). IsIntake T s t i) (start_one z.1 (start_of_is T f few u t h)) z.2) (intake_of_is T (start_of T u t) t),
    )

  -- the intake given is the earliest of the members'
  pub forward_intake_is : (us : List ℕ) → AllBelow T.counts.entities us → IsEarliest us (IntakeFrom T t) (forward_intake T us t)
  unfolding forward_intake
  forward_intake_is us h =
      earliest-same (λ i. of_any_iff us (λ u j. j ≡ intake_of T (start_of T u t) t) (IntakeFrom T t) i (λ u m. intake_from u (h u m) i)) (λ q. q)
      (earliest_is (λ u. intake_of T (start_of T u t) t) us)
