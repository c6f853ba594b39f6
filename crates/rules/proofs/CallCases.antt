-- The plain list: every row is computed by the definitions, from the bytes of the file.
use mathlib.Core.Path.{refl}
use Rattle.rules.specs.History.{into, since, intake_time}
use Rattle.rules.specs.CallCases.{CallCases}
use Rattle.rules.proofs.Computed.{computed}

pub call_cases : CallCases
unfolding computed into since intake_time
call_cases = record {
  all_added = refl;
  added_to_refused = refl;
  none_added = refl;
  first_added = refl;
  accepted_times = refl;
  kept_times = refl;
  since_times = refl;
  intake_times = refl;
  report_since_times = refl;
  report_intake_times = refl;
  worked_counts = refl;
  worked_entities = refl;
  worked_versions = refl;
  worked_edges = refl;
  stand_times_lem = refl;
  stand_for_newest = refl;
  last_times = refl;
  tried_over_lem = refl;
  calls_accepted = refl;
  calls_kept = refl;
  calls_counts = refl;
  calls_stand = refl;
  reads_tables = refl;
  calls_tables = refl;
}
