-- Every version passed so far meets the test, and the code of its entity is written.
use mathlib.Core.Path.{◌≡◌}
use mathlib.Core.Bool.{true}
use Rattle.rules.specs.Trail.{lent, trail_of}
use Rattle.rules.specs.Sound.{all_below, version_test}
use Rattle.soundness.specs.Parts.{Owners}
use Rattle.soundness.proofs.versions_ok.Given as goal

abbrev pub invariant-loop-k : goal.invariant-loop-k
invariant-loop-k l = record {
  passed : all_below (version_test (trail_of l.t.counts (lent l.t))) l.k ≡ true;
  owners : Owners (trail_of l.t.counts (lent l.t)) l.k l.owners;
}
