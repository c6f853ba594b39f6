-- Signatures in a file: every row is computed by the definitions, from the bytes of the file.
use mathlib.Core.Path.{refl}
use Rattle.rules.specs.SignatureCases.{SignatureCases}
use Rattle.rules.proofs.Computed.{computed}

pub signature_cases : SignatureCases
unfolding computed
signature_cases = record {
  signature_1 = refl;
  signature_255 = refl;
  kinds = refl;
  versions = refl;
  versions_256 = refl;
  version_512 = refl;
  header_bytes = refl;
  header_length = refl;
  cut_short = refl;
  declaration_1 = refl;
  declaration_255 = refl;
  event_1 = refl;
  event_255 = refl;
  sort = refl;
  event_kind = refl;
  decoded = refl;
  decoded_in_1 = refl;
  decoded_others = refl;
  encoded = refl;
}
