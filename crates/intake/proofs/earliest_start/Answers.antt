-- The start counts where the version is marked.
use Rattle.intake.proofs.EarliestStart.{starts_begin, starts_marked, starts_other, starts_end}
use Rattle.intake.proofs.earliest_start.Goals.{then-marked, else-marked}
use Rattle.intake.proofs.earliest_start.Goals as goal

pub loop-v-init : goal.loop-v-init
loop-v-init c = search starts_begin

pub loop-v-preserved : goal.loop-v-preserved
loop-v-preserved c = elim c.if-marked.branch [
  | then-marked w ↦ search starts_marked
  | else-marked w ↦ search starts_other
]

pub returns : goal.returns
returns c = search starts_end
