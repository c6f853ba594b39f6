-- The least with the intakes of those still marked, by the edges left, is the least of all.
use Rattle.std.specs.Prelude.{◌≤◌, ◌-◌}
use Rattle.rows.specs.Rows.{version_at, edge_at}
use Rattle.intake.proofs.EarliestIntake.{Seeks}
use Rattle.intake.proofs.earliest_intake.Given as goal

abbrev pub invariant-loop : goal.invariant-loop
invariant-loop l = record {
  in_range : l.k ≤ l.t.trail.counts.edges;
  seeks : Seeks (version_at l.t.trail.versions.now) (edge_at l.t.trail.edges.now) l.time l.t.trail.counts.edges l.initial.pending l.t.trail.counts.last l.k l.pending l.r (l.most - l.counter);
}
