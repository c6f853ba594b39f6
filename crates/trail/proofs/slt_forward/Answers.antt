-- The call below meets the equation, and the claims hold of what the equation gives.
use borrow.Author.Rules.{rules}
use Rattle.agreement.proofs.Promises.{forward_promise}
use Rattle.trail.proofs.slt_forward.Goals as goal

pub returns : goal.returns
returns c = record { marks_after = search rules; forward_promise = search forward_promise }
