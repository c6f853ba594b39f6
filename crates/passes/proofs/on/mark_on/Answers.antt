-- After a first pass that adds no mark later ones change nothing.
use Rattle.std.proofs.Common.{rules}
use Rattle.passes.specs.TraceArcs.{marked_on}
use Rattle.passes.proofs.Loops.{later_passes, no_later_pass}
use Rattle.passes.proofs.OnArcs.{later_first}
use Rattle.passes.proofs.on.mark_on.Goals as goal

pub returns-then-first_on : goal.returns-then-first_on
unfolding marked_on
returns-then-first_on c = later_passes _ _ _ _ _ _ c.first_on.ensures _ (c.close.ensures _ (λ m m' r l p. search rules))

pub returns-else-first_on : goal.returns-else-first_on
unfolding marked_on
returns-else-first_on c = search (no_later_pass, later_first)
