-- Sound tables make the marks, their entities, the count and the intake those of the documents.
use Rattle.closure.proofs.Checked.{work_fits}
use Rattle.marks.proofs.Bytes.{part_count}
use Rattle.trace.proofs.OnAnswer.{traceable, forward_passed}
use Rattle.trace.proofs.trace_on.Goals as goal

pub mark_versions-intake-requires : goal.mark_versions-intake-requires
mark_versions-intake-requires c = (search traceable, search (part_count, work_fits))

pub returns : goal.returns
returns c = search forward_passed
