-- The kept log at its bounds: every row is computed by the definitions.
use mathlib.Core.Path.{refl}
use Rattle.rules.specs.LogCases.{LogCases}
use Rattle.rules.proofs.Computed.{computed}

pub log_cases : LogCases
unfolding computed
log_cases = record {
  fresh_exact = refl;
  fresh_short = refl;
  exact = refl;
  longer = refl;
  short = refl;
  unsound_log = refl;
  no_edge = refl;
  four_bytes = refl;
}
