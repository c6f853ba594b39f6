-- Signed objects in the kept log: every row is computed by the definitions.
use mathlib.Core.Path.{refl}
use Rattle.rules.specs.SignedLogCases.{SignedLogCases}
use Rattle.rules.proofs.Computed.{computed}

pub signed_log_cases : SignedLogCases
unfolding computed
signed_log_cases = record {
  sorts_of_0 = refl;
  sorts_of_3 = refl;
  both_signed = refl;
  subject_1 = refl;
  subject_2 = refl;
  edge_from_signed = refl;
  edge_to_signed = refl;
  edge_signed_to_object = refl;
  edge_object_to_signed = refl;
  edge_between_signed = refl;
  sort_3 = refl;
  log_exact = refl;
  log_longer = refl;
  log_short = refl;
  log_none = refl;
  log_none_empty = refl;
  log_past = refl;
  log_0 = refl;
  log_3 = refl;
  log_two = refl;
  log_two_short = refl;
  log_sort_3 = refl;
  log_turned = refl;
  log_last = refl;
  regrown_answer = refl;
  regrown_counts = refl;
  regrown_tables = refl;
  regrown_log = refl;
  regrown_write = refl;
  between = refl;
  regrown_between = refl;
  regrown_two = refl;
  regrown_two_entities = refl;
}
