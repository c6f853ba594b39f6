-- The listing at its bounds: every row is computed by the definitions, from the bytes of the input.
use mathlib.Core.Path.{refl}
use Rattle.rules.specs.ListingCases.{ListingCases}
use Rattle.rules.proofs.Computed.{computed}

pub listing_cases : ListingCases
unfolding computed
listing_cases = record {
  file_32767 = refl;
  file_32768 = refl;
  file_32769 = refl;
  rows = refl;
  header_alone = refl;
  wrong_version = refl;
  first_cut = refl;
  last_cut = refl;
  record_numbers = refl;
  digits = refl;
  greatest_time = refl;
}
