-- The buffer is cleared, marked and closed in turn; after a first pass that adds no mark later ones change nothing.
use Rattle.std.proofs.Common.{rules}
use Rattle.passes.specs.TraceArcs.{marked_back}
use Rattle.passes.proofs.Loops.{later_from_one, none_from_one}
use Rattle.passes.proofs.BackArcs.{later_first}
use Rattle.passes.proofs.back.mark_back.Goals as goal

pub returns-then-first_back : goal.returns-then-first_back
unfolding marked_back
returns-then-first_back c =
    later_from_one _ _ _ _ _ _ _ _ _ (search rules) c.clear.ensures c.mark.ensures c.first_back.ensures _ (c.close.ensures _ (λ m m' r l p. search rules))

pub returns-else-first_back : goal.returns-else-first_back
unfolding marked_back
returns-else-first_back c = search (none_from_one, later_first)
