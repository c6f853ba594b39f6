-- The bounds of a trace: every row is computed by the definitions.
use mathlib.Core.Path.{refl}
use Rattle.rules.specs.TraceCases.{TraceCases}
use Rattle.rules.proofs.Computed.{computed}

pub trace_cases : TraceCases
unfolding computed
trace_cases = record {
  backward_exact = refl;
  backward_longer = refl;
  forward_exact = refl;
  forward_longer = refl;
  backward_work_short = refl;
  backward_marks_short = refl;
  forward_work_short = refl;
  forward_marks_short = refl;
  backward_entity = refl;
  forward_entity = refl;
  backward_unsound = refl;
  forward_unsound = refl;
  backward_0 = refl;
  backward_1 = refl;
  backward_2 = refl;
  backward_3 = refl;
  backward_4 = refl;
  backward_5 = refl;
  backward_6 = refl;
  backward_last = refl;
  backward_declared_late = refl;
  forward_2 = refl;
  forward_3 = refl;
  forward_5 = refl;
  forward_6 = refl;
  intake_0 = refl;
  intake_1 = refl;
  intake_2 = refl;
  intake_newest = refl;
  intake_start = refl;
  intake_greatest = refl;
  intake_of_repeated = refl;
  backward_repeated = (refl, refl);
  later_edge = refl;
  unused_backward = refl;
  unused_forward = refl;
  unused_intake = refl;
  chain_backward = refl;
  chain_forward_lem = refl;
  chain_marks = refl;
  branched_backward_lem = refl;
  branched_forward_lem = refl;
  long_chain = refl;
}
