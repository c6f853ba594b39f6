-- No edge passed enters, so the edges left give the same intake.
use Rattle.std.specs.Prelude.{◌≡◌}
use Rattle.rows.specs.Rows.{version_at, edge_at}
use Rattle.intake.specs.Intake.{last_intake}
use Rattle.intake.proofs.intake_of.Given as goal

abbrev pub invariant-loop-k : goal.invariant-loop-k
invariant-loop-k l = last_intake (version_at l.t.trail.versions.now) (edge_at l.t.trail.edges.now) l.s.0 l.time l.k
    ≡ last_intake (version_at l.t.trail.versions.now) (edge_at l.t.trail.edges.now) l.s.0 l.time l.t.trail.counts.edges
