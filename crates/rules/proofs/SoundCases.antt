-- Sound tables, clause by clause: every row is computed by the definition.
use mathlib.Core.Path.{refl}
use Rattle.rules.specs.SoundCases.{SoundCases}
use Rattle.rules.proofs.Computed.{computed}

pub sound_cases : SoundCases
unfolding computed
sound_cases = record {
  full_tables = refl;
  entities_within = refl;
  versions_within = refl;
  edges_within = refl;
  whole_rows = refl;
  accepted = refl;
  sort = refl;
  latest_exists = refl;
  latest_of_first = refl;
  latest_of_second = refl;
  entity_exists = refl;
  start_end = refl;
  end_last_of_first = refl;
  end_last_of_newest = refl;
  none_at_zero = refl;
  none_past_zero = refl;
  previous_past_zero = refl;
  previous_lower = refl;
  previous_entity = refl;
  previous_start = refl;
  from_exists = refl;
  to_exists = refl;
  two_entities = refl;
  two_entities_from_older = refl;
  object_to_subject = refl;
  subject_to_object = refl;
  subject_to_subject = refl;
  object_to_object = refl;
  first_time = refl;
  middle_time = refl;
  last_time_lem = refl;
  count_of_first = refl;
  count_of_none = refl;
  count_of_three = refl;
  last_of_read = refl;
  last_of_write = refl;
  last_of_load = refl;
  last_of_fork = refl;
  last_of_execve = refl;
  last_of_none = refl;
  sum_with_first = refl;
  sum_with_last = refl;
  sum_past_32_bits = refl;
  sum_past_64_bits = refl;
  sum_of_none = refl;
  rows_past = refl;
  fresh_trail = refl;
}
