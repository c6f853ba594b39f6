-- Lists of entities: every row is computed by the definitions.
use mathlib.Core.Path.{refl}
use Rattle.rules.specs.MemberCases.{MemberCases}
use Rattle.rules.proofs.Computed.{computed}

pub member_cases : MemberCases
unfolding computed
member_cases = record {
  studies = (refl, refl);
  two = (refl, refl);
  two_whole = refl;
  two_turned = refl;
  two_repeated = refl;
  longer_than_the_entities = (refl, refl);
  first_counts = (refl, refl);
  last_counts = (refl, refl);
  marked_already = (refl, refl);
  older_version = refl;
  older_version_gave = refl;
  intake_and_none = (refl, refl);
  start_and_intake = refl;
  two_starts_lem = refl;
  earliest_of = refl;
  own_intakes = refl;
  empty = refl;
  empty_exact = refl;
  empty_fresh = refl;
  empty_unsound = refl;
  empty_16_14 = refl;
  empty_work_short = refl;
  empty_marks_short = refl;
  undeclared = refl;
  list_16_5 = refl;
  list_5_14 = refl;
  list_14 = refl;
}
