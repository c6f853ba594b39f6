-- Every edge passed so far meets the test, `least` is the least time of the next one, and `sum` is the sum of their counts, each
-- below 2^32.
use Prim.Native.Nat.{◌*◌, ◌≤◌}
use mathlib.Core.Path.{◌≡◌}
use mathlib.Core.Bool.{true}
use Rattle.rows.specs.Rows.{edge_at}
use Rattle.rules.specs.Sound.{all_below, count_sum}
use Rattle.soundness.specs.Parts.{least_time, coded_test}
use Rattle.soundness.proofs.edges_ok.Given as goal

abbrev pub invariant-loop-k : goal.invariant-loop-k
invariant-loop-k l = record {
  passed : all_below (coded_test l.c l.owners (edge_at l.edges)) l.k ≡ true;
  least : l.least ≡ least_time (edge_at l.edges) l.k;
  sum : l.sum ≡ count_sum (edge_at l.edges) l.k;
  sum_most : l.sum ≤ l.k * 4294967295;
}
