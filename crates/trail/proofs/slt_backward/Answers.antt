-- The call below meets the equation, and the claims hold of what the equation gives.
use borrow.Author.Rules.{rules}
use Rattle.agreement.proofs.Promises.{backward_promise}
use Rattle.trail.proofs.slt_backward.Goals as goal

pub returns : goal.returns
returns c = record { marks_after = search rules; backward_promise = search backward_promise }
