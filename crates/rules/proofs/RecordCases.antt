-- One record, with every number of the tables: every row is computed by the definitions, from the bytes of the file.
use mathlib.Core.Path.{refl}
use Rattle.rules.specs.RecordCases.{RecordCases}
use Rattle.rules.proofs.Computed.{computed}

pub record_cases : RecordCases
unfolding computed
record_cases = record {
  declared_counts = refl;
  declared_tables = refl;
  after_read = refl;
  after_load = refl;
  after_execve = refl;
  newest_repeated = refl;
  newest_into_older = refl;
  two_writes = refl;
  two_forks = refl;
  two_targets = refl;
  into_older_read = refl;
  into_older_load = refl;
  into_older_execve = refl;
  grown_answer = refl;
  grown_counts = refl;
  grown_entities = refl;
  grown_versions = refl;
  grown_edges = refl;
  newest_counted = refl;
  counted_again = refl;
  counted_by_turns = refl;
  counted_writes = refl;
  kept_late = refl;
  counted_late = refl;
  counted_in_full = refl;
  older_counted = refl;
  newest_repeats = refl;
  newest_leaves = refl;
  unused_repeats = refl;
  unused_leaves = refl;
  declared_after = refl;
  late_answer = refl;
  late_counts = refl;
  late_entities = refl;
  late_version = refl;
  refused_record = refl;
  refused_repeat = refl;
}
