-- The arcs of the edges and of the versions are followed in turn.
use Rattle.std.proofs.Common.{rules, refl}
use Rattle.passes.specs.TraceArcs.{first_on}
use Rattle.passes.proofs.Followed.{followed_append}
use Rattle.passes.proofs.on.first_on.Goals as goal

pub returns : goal.returns
unfolding first_on
returns c = followed_append _ _ _ _ _ _ _ _ (c.up-a.ensures _ (λ m m' k r l h p. search rules)) (c.up-b.ensures _ (λ m m' k r l h p. search rules)) refl
