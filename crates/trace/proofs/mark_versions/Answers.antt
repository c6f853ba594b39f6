-- The start versions are marked anew, then closed.
use Rattle.trace.proofs.OnAnswer.{versions_marked}
use Rattle.trace.proofs.mark_versions.Goals as goal

pub returns-clause-marks : goal.returns-clause-marks
returns-clause-marks c = search versions_marked
