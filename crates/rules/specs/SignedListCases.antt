-- Document 02, 2.4: signatures in the plain list, in a list of calls and in the listing. The proof is in
-- proofs/SignedListCases.antt.
use Rattle.std.specs.Prelude.{ℕ, ◌≡◌, List, [], ◌∷◌, ◌++◌, map, replicate}
use Rattle.refusals.specs.Refusals.{number_of}
use Rattle.rows.specs.Rows.{entity_row, entity_no}
use Rattle.record.specs.declared.Kind.TheVariants.{Write}
use Rattle.record.specs.declared.Event.{Event}
use Rattle.record.specs.declared.Record.{Record}
use Rattle.record.specs.declared.Record.TheVariants as records
use Rattle.rules.specs.Trail.{Capacity, capacity_of, counts}
use Rattle.rules.specs.History.{Item, kept, dropped, accepted, kept_events}
use Rattle.rules.specs.PlainList.{worked, items_of, unsigned, tried_over, added, added_by, refused_by}
use Rattle.rules.specs.Calls.{Call, batch, held_after, plain_after}
use Rattle.rules.specs.KeptLog.{signature_record}
use Rattle.rules.specs.Listing.{listing_of}
use Rattle.rules.specs.Worked.{header, declarations, events, file, room, batch as worked_batch}
use Rattle.rules.specs.Order.{declare, event}
use Rattle.rules.specs.RecordCases.{read}
use Rattle.rules.specs.ListingCases.{text}
use Rattle.rules.specs.CallCases.{times_of, stand_times}
use Rattle.rules.specs.SignatureCases.{header_2, sign}
use Rattle.rules.specs.SignedCases.{signed_file, signed_tables}

abbrev pub room_for : Capacity
room_for = capacity_of (room 8)

-- the records that are taken in of the worked file with the signature and bytes after it, and what the first not taken in is refused for
abbrev pub signed_plain : List ℕ → List Record
signed_plain bytes = added_by room_for [] (signed_file bytes)

abbrev pub refused_plain : List ℕ → ℕ
refused_plain bytes = number_of (refused_by room_for [] (signed_file bytes))

-- the records of signed_first
abbrev pub first_plain : List Record
first_plain = added_by room_for [] (header_2 ++ (declarations ++ (sign 0 ++ (sign 3 ++ events 1))))

-- a write of the report at t
abbrev pub write : ℕ → Event
write t = record { kind = Write; source = entity_no 1; target = entity_no 2; time = t }

-- the records of the worked file, and its events, the last first
abbrev pub declaration : ℕ → ℕ → Record
declaration x s = records.Declaration (record { sort = s; entity = entity_no x })

abbrev pub worked_declared : List Record
worked_declared = declaration 3 0 ∷ declaration 2 0 ∷ declaration 1 1 ∷ declaration 0 0 ∷ []

abbrev pub worked_records : List Record
worked_records =
    records.Event (read 3 1 7) ∷ records.Event (write 6) ∷ records.Event (read 3 1 5) ∷ records.Event (write 4) ∷ records.Event (read 0 1 3)
    ∷ records.Event (write 2) ∷ records.Event (read 0 1 1)
    ∷ worked_declared

abbrev pub worked_items : List Item
worked_items =
    dropped (read 3 1 7) ∷ kept (write 6) ∷ kept (read 3 1 5) ∷ dropped (write 4) ∷ dropped (read 0 1 3) ∷ kept (write 2) ∷ kept (read 0 1 1) ∷ []

abbrev pub worked_signed : List Record
worked_signed = signature_record 2 ∷ worked_records

-- a write of the report, a read of it, at time 8
abbrev pub report_written : Record
report_written = records.Event (write 8)

abbrev pub report_read : Record
report_read = records.Event (read 2 1 8)

-- the worked file, the signature of the report, a write of it: the last call stands first
abbrev pub signed_calls : List Call
signed_calls = batch signed_tables (header ++ event 2 1 2 8) ∷ batch (worked_batch 8).tables (header_2 ++ sign 2) ∷ batch (room 8) (file 1) ∷ []

pub record SignedListCases : Type 0 where
  -- the plain list: a signature is a record taken in, and no event
  pub plain_signed : signed_plain [] ≡ worked_signed
  pub plain_items : map items_of (signed_plain [] ∷ first_plain ∷ []) ≡ replicate 2 worked_items
  pub plain_accepted : times_of (accepted (items_of (signed_plain []))) ≡ 7 ∷ 6 ∷ 5 ∷ 4 ∷ 3 ∷ 2 ∷ 1 ∷ []
  pub plain_kept : times_of (kept_events (items_of (signed_plain []))) ≡ 6 ∷ 5 ∷ 2 ∷ 1 ∷ []
  pub plain_tried : map tried_over (signed_plain [] ∷ first_plain ∷ []) ≡ 11 ∷ 11 ∷ []
  pub plain_stand : map (λ rs. stand_times rs (0 ∷ 1 ∷ 2 ∷ 3 ∷ [])) (signed_plain [] ∷ first_plain ∷ [])
      ≡ replicate 2 ((3 ∷ 1 ∷ []) ∷ (4 ∷ 2 ∷ []) ∷ (7 ∷ 5 ∷ []) ∷ (6 ∷ []) ∷ [])
  pub plain_counts : (worked (signed_plain [])).counts ≡ counts 4 5 4 7 7
  pub plain_entities : map (worked (signed_plain [])).entity (0 ∷ 1 ∷ 2 ∷ 3 ∷ []) ≡ entity_row 0 0 ∷ entity_row 1 4 ∷ entity_row 2 2 ∷ entity_row 0 3 ∷ []
  -- without its signatures, the list of the worked file
  pub plain_unsigned : map unsigned (signed_plain [] ∷ first_plain ∷ worked_records ∷ []) ≡ replicate 3 worked_records
  pub plain_worked : added_by room_for [] (file 1) ≡ worked_records
  -- after the signature: nothing; a write of the report, a second signature, one of a subject, one of an unknown entity; a read of the report
  pub plain_refused : map refused_plain ([] ∷ event 2 1 2 8 ∷ sign 2 ∷ sign 1 ∷ sign 4 ∷ event 1 2 1 8 ∷ []) ≡ 0 ∷ 17 ∷ 17 ∷ 8 ∷ 5 ∷ 0 ∷ []
  pub plain_not_added : map signed_plain (event 2 1 2 8 ∷ sign 2 ∷ sign 1 ∷ sign 4 ∷ []) ≡ replicate 4 worked_signed
  pub plain_added : signed_plain (event 1 2 1 8) ≡ report_read ∷ worked_signed
  pub added_after : map (added room_for worked_signed) ((report_written ∷ []) ∷ (report_read ∷ report_written ∷ []) ∷ [])
      ≡ worked_signed ∷ (report_read ∷ worked_signed) ∷ []
  pub added_before : added room_for worked_records (report_written ∷ signature_record 2 ∷ []) ≡ signature_record 2 ∷ report_written ∷ worked_records
  -- "Version 1 files may not."
  pub plain_in_1 : added_by room_for [] (file 1 ++ sign 2) ≡ worked_records
  pub refused_in_1 : number_of (refused_by room_for [] (file 1 ++ sign 2)) ≡ 4
  -- the worked file, the signature and the write in batches of their own
  pub calls_plain : plain_after signed_calls ≡ worked_signed
  pub calls_counts : (held_after signed_calls).counts ≡ counts 4 5 4 7 7
  pub calls_tables : (held_after signed_calls).tables ≡ signed_tables
  -- the listing: as without the signature; a write of the report after it; a second signature; one of a subject, of an unknown entity, and
  -- in a file of version 1
  pub listed_signed : listing_of (signed_file []) ≡ text "trail 4 5 4 7 7\nedge 0 1 1 1\nedge 1 2 2 2\nedge 3 4 1 5\nedge 4 2 2 6\n"
  pub listed_write : listing_of (signed_file (event 2 1 2 8))
      ≡ text "trail 4 5 4 7 7\nedge 0 1 1 1\nedge 1 2 2 2\nedge 3 4 1 5\nedge 4 2 2 6\nrefused 17 13\n"
  pub listed_second : listing_of (header_2 ++ (declare 0 0 ++ (sign 0 ++ sign 0))) ≡ text "trail 1 1 0 0 0\nrefused 17 3\n"
  pub listed_subject : listing_of (header_2 ++ (declare 0 1 ++ sign 0)) ≡ text "trail 1 1 0 0 0\nrefused 8 2\n"
  pub listed_unknown : listing_of (header_2 ++ sign 0) ≡ text "trail 0 0 0 0 0\nrefused 5 1\n"
  pub listed_in_1 : listing_of (header ++ (declare 0 0 ++ sign 0)) ≡ text "trail 1 1 0 0 0\nrefused 4 2\n"
