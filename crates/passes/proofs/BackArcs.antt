-- The arcs of the backward passes.
use Prim.Native.Nat.{ℕ}
use mathlib.Core.Path.{◌≡◌}
use mathlib.Core.Bool.{Bool, false}
use mathlib.Core.List.{List, [], ◌∷◌, Memᴰ}
use borrow.Author.Tests.{eq-eqb, ne_eqb}
use Rattle.rules.specs.Trail.{Trail, none}
use Rattle.rules.specs.Marks.{Arc, arc}
use Rattle.passes.specs.Followed.{Followed, down}
use Rattle.passes.specs.TraceArcs.{step_back, source_back, edge_back, first_back, later_back}
use Rattle.passes.proofs.Members.{down_iff, with_more}
use Rattle.passes.proofs.Followed.{followed_none}

-- the step of a version to its previous
module _ (v p : ℕ) (m : List ℕ) where
  pub step-none : p ≡ none → Followed (step_back v p) m false m
  unfolding step_back
  step-none h = rw (eq-eqb p none h) (followed_none m)

  pub step_back_lem : (c : Bool) (m' : List ℕ) → Followed (arc v p ∷ []) m c m' → (p ≡ none → ⊥) → Followed (step_back v p) m c m'
  unfolding step_back
  step_back_lem c m' f h = rw (ne_eqb p none h) f

-- what a later pass follows the first one follows
pub later_first : (T : Trail) (s t : ℕ) (x : Arc) → Memᴰ x (later_back T s t) → Memᴰ x (first_back T s t)
unfolding later_back first_back edge_back
later_first T s t x = with_more down down_iff x (λ k. source_back s t (T.edge k)) (λ k. step_back (T.edge k).to.0 (T.version (T.edge k).to.0).previous.0) T.counts.edges _
