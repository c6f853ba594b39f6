-- No edge passed enters a pending version.
use Rattle.std.specs.Prelude.{◌≡◌}
use Rattle.rows.specs.Rows.{edge_at}
use Rattle.intake.specs.Intake.{up_to_entering}
use Rattle.intake.proofs.last_entering.Given as goal

abbrev pub invariant-loop-k : goal.invariant-loop-k
invariant-loop-k l = up_to_entering (edge_at l.edges) l.pending l.time l.k ≡ up_to_entering (edge_at l.edges) l.pending l.time l.d
