-- What a signature does: every row is computed by the definitions, from the bytes of the file.
use mathlib.Core.Path.{refl}
use Rattle.rules.specs.SignedCases.{SignedCases}
use Rattle.rules.proofs.Computed.{computed}

pub signed_cases : SignedCases
unfolding computed
signed_cases = record {
  signed_answer = refl;
  signed_counts = refl;
  signed_tables_lem = refl;
  signed_next = refl;
  first_answer = refl;
  first_counts = refl;
  first_tables = refl;
  latest_stays = refl;
  signed_backward = refl;
  backward_whole = refl;
  forward_whole = refl;
  signs_each = refl;
  signs_fresh = refl;
  signs_past = refl;
  second = refl;
  second_next = refl;
  second_of_two = refl;
  second_after_read = refl;
  signs_unsound = refl;
  signs_field = refl;
  signs_in_1 = refl;
  signs_in_full = refl;
  signs_at_most = refl;
  signs_late = refl;
  into_signed = refl;
  from_object = refl;
  out_of_signed = refl;
  signed_to_object = refl;
  into_another = refl;
  among_subjects = refl;
  write_sources = refl;
  write_targets = refl;
  write_past = refl;
  write_times = refl;
  write_in_1 = refl;
  write_not_read = refl;
  r5_17 = refl;
  r7_17 = refl;
  r8_17 = refl;
  r17_9 = refl;
  r17_13 = refl;
  r17_9_13 = refl;
  r17_12 = refl;
  r17_11 = refl;
  r17_repeat = refl;
  r17_13_repeat = refl;
  write_left = refl;
  repeat_left = refl;
  out_answers = refl;
  out_counts = refl;
  out_entities = refl;
  again_answers = refl;
  again_counts = refl;
  again_edge = refl;
  others_answers = refl;
  others_counts = refl;
  declared_later = refl;
  tried_signature = refl;
  tried_refused = refl;
}
