-- How many edges are tried: every row is computed by the definitions, from the bytes of the file.
use mathlib.Core.Path.{refl}
use Rattle.rules.specs.TriedCases.{TriedCases}
use Rattle.rules.proofs.Computed.{computed}

pub tried_cases : TriedCases
unfolding computed
tried_cases = record {
  summed = refl;
  from_object = refl;
  from_subject = refl;
  execve_no_hit = refl;
  past_forks = refl;
  past_a_fork = refl;
  newest_execve = refl;
  second_of_four = refl;
  of_worked = refl;
  from_new_version = refl;
  next_batch = refl;
  declared_between = refl;
  forked_between = refl;
  many = refl;
  refused = refl;
  after_refused = refl;
  refused_10 = refl;
  refused_11 = refl;
  one_then_13 = refl;
  one_then_12 = refl;
  one_then_11 = refl;
  five_then_13 = refl;
  five_then_12 = refl;
  five_then_11 = refl;
  tried_if_sound = refl;
  refused_16 = refl;
  refused_1 = refl;
  refused_2 = refl;
  unused_row = refl;
  two_hits = refl;
  no_hit = refl;
  into_older = refl;
}
