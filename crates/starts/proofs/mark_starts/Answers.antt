-- No member passed, and one more.
use Rattle.starts.proofs.StartsLoop.{marks_start, marks_next}
use Rattle.starts.proofs.mark_starts.Goals as goal

pub loop-u-init : goal.loop-u-init
loop-u-init c = search marks_start

pub loop-u-preserved : goal.loop-u-preserved
loop-u-preserved c = search marks_next
