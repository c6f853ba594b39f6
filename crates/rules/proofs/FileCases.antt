-- The event file, byte by byte: every row is computed by the definitions, from the bytes of the file.
use mathlib.Core.Path.{refl}
use Rattle.rules.specs.FileCases.{FileCases}
use Rattle.rules.proofs.Computed.{computed}

pub file_cases : FileCases
unfolding computed
file_cases = record {
  mark_0 = refl;
  mark_1 = refl;
  mark_2 = refl;
  version_low = refl;
  version_high = refl;
  zero_5 = refl;
  zero_6 = refl;
  zero_7 = refl;
  header_length = refl;
  declaration_1 = refl;
  declaration_255 = refl;
  sort = refl;
  event_1 = refl;
  event_255 = refl;
  kind = refl;
  kinds = refl;
  time_bytes = refl;
  decoded_event = refl;
  decoded_declaration = refl;
  encoded_event = refl;
  encoded_declaration = refl;
  decoded_greatest = refl;
  encoded_greatest = refl;
  encoded_kinds = refl;
  greatest_time = refl;
  after_greatest = refl;
  cut_short = refl;
  first_refused_4 = refl;
  first_refused_6 = refl;
  first_refused_3 = refl;
}
