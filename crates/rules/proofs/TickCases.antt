-- Events in one tick: every row is computed by the definitions, from the bytes of the file.
use mathlib.Core.Path.{refl}
use Rattle.rules.specs.History.{since, intake_time, into}
use Rattle.rules.specs.TickCases.{TickCases}
use Rattle.rules.proofs.Computed.{computed}

pub tick_cases : TickCases
unfolding computed since intake_time into
tick_cases = record {
  again_answers = refl;
  again_refused = refl;
  next_kept = refl;
  next_first = refl;
  again_counted = refl;
  pair = refl;
  after_pair = refl;
  after_two = refl;
  pair_backward = refl;
  pair_forward = refl;
  turned = refl;
  turned_backward = refl;
  turned_forward = refl;
  turned_stager = refl;
  back_forward = refl;
  back_since = refl;
  turns_taken = refl;
  turns_backward = refl;
  turns_study = refl;
  turns_stager = refl;
  turns_since = refl;
  turns_intakes = refl;
  turns_log = refl;
  repeat_counts = refl;
  repeat_edges = refl;
  repeat_since = refl;
  repeat_log = refl;
  twice_backward = refl;
  two_reads = refl;
  equal_backward_lem = refl;
  equal_forward_lem = refl;
}
