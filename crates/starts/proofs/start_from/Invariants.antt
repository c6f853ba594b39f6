-- The steps that are left lead from the version at hand to where all steps lead from the first.
use Rattle.std.specs.Prelude.{◌-◌, ◌≡◌}
use Rattle.rows.specs.Rows.{version_at}
use Rattle.rules.specs.Start.{start_from}
use Rattle.starts.proofs.start_from.Given as goal

abbrev pub invariant-loop : goal.invariant-loop
invariant-loop l = start_from (version_at l.versions) l.time (l.n - l.counter) l.w.0 ≡ start_from (version_at l.versions) l.time l.n l.initial.w.0
