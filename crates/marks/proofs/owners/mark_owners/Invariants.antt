-- The buffer has the owners of the versions passed.
use Rattle.std.specs.Prelude.{◌≡◌}
use Rattle.rows.specs.Rows.{version_at}
use Rattle.marks.specs.Owners.{owners_marked}
use Rattle.marks.proofs.owners.mark_owners.Given as goal

abbrev pub invariant-loop-k : goal.invariant-loop-k
invariant-loop-k l = l.marks ≡ owners_marked (version_at l.versions) l.work l.k l.initial.marks
