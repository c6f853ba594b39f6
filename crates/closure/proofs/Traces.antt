-- The traces of document 01 as computed: which entities they mark, where the rows are as in sound tables.
use Prim.Native.Nat.{ℕ, ◌<◌}
use mathlib.Core.Path.{◌≡◌}
use mathlib.Core.Logic.{◌↔◌}
use mathlib.Core.List.{List}
use lib.ListN.{length, get_or}
use Rattle.rules.specs.Trail.{Trail, owner_of}
use Rattle.rules.specs.Start.{start_of}
use Rattle.rules.specs.Marks.{marks_below}
use Rattle.rules.specs.Backward.{BackwardMarks, backward_work, backward_entities}
use Rattle.rules.specs.Members.{OfAny}
use Rattle.rules.specs.Forward.{ForwardMarks, forward_work, forward_entities}
use Rattle.soundness.specs.Facts.{RowFacts}
use Rattle.closure.specs.Arcs.{Marked, Bits, AllBelow}
use Rattle.closure.proofs.Start.{start_in}
use Rattle.closure.proofs.Entities.{length-marks_below, bits_marks_below, marks_below_iff}
use Rattle.closure.proofs.Backward.{backward_marks_in, backward_work_iff}
use Rattle.closure.proofs.Forward.{forward_marks_in, forward_work_iff}

-- the buffers have a mark for each entity
pub length-backward_entities : (T : Trail) (v t : ℕ) → length (backward_entities T v t) ≡ T.counts.entities
unfolding backward_entities
length-backward_entities T v t = length-marks_below T.version (backward_work T v t) T.counts.versions T.counts.entities

pub bits_backward_entities : (T : Trail) (v t : ℕ) → Bits (backward_entities T v t)
unfolding backward_entities
bits_backward_entities T v t = bits_marks_below T.version (backward_work T v t) T.counts.versions T.counts.entities

pub length-forward_entities : (T : Trail) (us : List ℕ) (t : ℕ) → length (forward_entities T us t) ≡ T.counts.entities
unfolding forward_entities
length-forward_entities T us t = length-marks_below T.version (forward_work T us t) T.counts.versions T.counts.entities

pub bits_forward_entities : (T : Trail) (us : List ℕ) (t : ℕ) → Bits (forward_entities T us t)
unfolding forward_entities
bits_forward_entities T us t = bits_marks_below T.version (forward_work T us t) T.counts.versions T.counts.entities

-- where the work buffer marks the versions of a set, the mark buffer marks their entities
module _ (T : Trail) (work : List ℕ) (M : ℕ → Type 0) (is : (w : ℕ) → Marked work w ↔ M w) (inside : (w : ℕ) → M w → w < T.counts.versions) where
  pub entities_iff : (x : ℕ) → x < T.counts.entities
      → Marked (marks_below T.version work T.counts.versions T.counts.entities) x ↔ ((w : ℕ) × M w × (owner_of T w ≡ x))
  entities_iff x h =
      let i = marks_below_iff T.version work T.counts.versions T.counts.entities x h in
      (λ o. let z = i.0 o in (z.0, (is z.0).0 z.2, z.3), λ z. i.1 (z.0, inside z.0 z.1, (is z.0).1 z.1, z.2))

module _ (T : Trail) (f : RowFacts T) where
  -- "1 for each entity with a marked version"
  pub backward_marks : (v t x : ℕ) → v < T.counts.entities → x < T.counts.entities
      → get_or (backward_entities T v t) x 0 ≡ 1 ↔ ((w : ℕ) × BackwardMarks T (start_of T v t) t w × (owner_of T w ≡ x))
  unfolding backward_entities
  backward_marks v t x h =
      entities_iff T (backward_work T v t) (BackwardMarks T (start_of T v t) t) (backward_work_iff T f v t h)
      (λ w d. backward_marks_in T (start_of T v t) t f (start_in T f v t h) d) x

  pub forward_marks : (us : List ℕ) (t x : ℕ) → AllBelow T.counts.entities us → x < T.counts.entities
      → get_or (forward_entities T us t) x 0 ≡ 1 ↔ ((w : ℕ) × OfAny us (λ u. ForwardMarks T (start_of T u t)) w × (owner_of T w ≡ x))
  unfolding forward_entities
  forward_marks us t x h =
      entities_iff T (forward_work T us t) (OfAny us (λ u. ForwardMarks T (start_of T u t))) (forward_work_iff T f us t h)
      (λ w z. forward_marks_in T (start_of T z.0 t) f (start_in T f z.0 t (h z.0 z.1)) z.2) x
