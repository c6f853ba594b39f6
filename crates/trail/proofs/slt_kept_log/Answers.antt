-- The call below meets the equation, and the claims hold of what the equation gives.
use borrow.Author.Rules.{rules}
use Rattle.agreement.proofs.Promises.{log_promise}
use Rattle.trail.proofs.slt_kept_log.Goals as goal

pub returns : goal.returns
returns c = record { out_after = search rules; log_promise = search log_promise }
