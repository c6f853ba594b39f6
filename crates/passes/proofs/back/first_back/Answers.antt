-- The arcs of the edges and of the versions are followed in turn.
use Rattle.std.proofs.Common.{rules, refl}
use Rattle.passes.specs.TraceArcs.{first_back}
use Rattle.passes.proofs.Followed.{followed_append}
use Rattle.passes.proofs.back.first_back.Goals as goal

pub returns : goal.returns
unfolding first_back
returns c = followed_append _ _ _ _ _ _ _ _ (c.down-a.ensures _ (λ m m' k r l h p. search rules)) (c.down-b.ensures _ (λ m m' k r l h p. search rules)) refl
