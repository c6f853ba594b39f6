-- The call below meets the equation, and the claims hold of what the equation gives.
use Rattle.agreement.proofs.Promises.{batch_promise}
use Rattle.trail.proofs.slt_batch.Goals as goal

pub returns : goal.returns
returns c = let e = c.batch-b.ensures in (e, batch_promise _ _ _ _ e)
