-- Sound tables make the marks, their entities and the count those of document 01.
use Rattle.trace.proofs.BackAnswer.{backward_passed}
use Rattle.trace.proofs.trace_back.Goals as goal

pub returns : goal.returns
returns c = search backward_passed
