-- Signatures in lists of records and calls: every row is computed by the definitions, from the bytes of the file.
use mathlib.Core.Path.{refl}
use Rattle.rules.specs.PlainList.{refused_at, refused_by}
use Rattle.rules.specs.SignedListCases.{SignedListCases}
use Rattle.rules.proofs.Computed.{computed}

pub signed_list_cases : SignedListCases
unfolding computed refused_at refused_by
signed_list_cases = record {
  plain_signed = refl;
  plain_items = refl;
  plain_accepted = refl;
  plain_kept = refl;
  plain_tried = refl;
  plain_stand = refl;
  plain_counts = refl;
  plain_entities = refl;
  plain_unsigned = refl;
  plain_worked = refl;
  plain_refused = refl;
  plain_not_added = refl;
  plain_added = refl;
  added_after = refl;
  added_before = refl;
  plain_in_1 = refl;
  refused_in_1 = refl;
  calls_plain = refl;
  calls_counts = refl;
  calls_tables = refl;
  listed_signed = refl;
  listed_write = refl;
  listed_second = refl;
  listed_subject = refl;
  listed_unknown = refl;
  listed_in_1 = refl;
}
