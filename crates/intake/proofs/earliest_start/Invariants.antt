-- The least with those not passed is the least of all.
use Rattle.rows.specs.Rows.{version_at}
use Rattle.intake.proofs.EarliestStart.{Starts}
use Rattle.intake.proofs.earliest_start.Given as goal

abbrev pub invariant-loop-v : goal.invariant-loop-v
invariant-loop-v l = Starts (version_at l.t.versions.now) l.pending l.b l.v l.r
