-- Each refusal just given and just not: every row is computed by the definitions.
use mathlib.Core.Path.{refl}
use Rattle.rules.specs.RefusalCases.{RefusalCases}
use Rattle.rules.proofs.Computed.{computed}

pub refusal_cases : RefusalCases
unfolding computed
refusal_cases = record {
  refusal_numbers = refl;
  next_number = refl;
  source = refl;
  target = refl;
  object_to_subject = refl;
  subject_to_object = refl;
  subject_to_subject = refl;
  object_to_object = refl;
  time = refl;
  accepted_kept = refl;
  accepted_repeated = refl;
  millionth_kept = refl;
  millionth_repeated = refl;
  millionth_counted = refl;
  no_entity_row = refl;
  no_version_row = refl;
  no_new_version = refl;
  none_to_be_made = refl;
  no_edge_row = refl;
  no_edge_row_renewed = refl;
  full_from_object = refl;
  full_fork = refl;
  full_write = refl;
  full_load = refl;
  unsound_left = refl;
  header_left = refl;
  repeat_left = refl;
  record_left = refl;
}
