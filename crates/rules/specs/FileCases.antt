-- Document 01, "The event file": each byte of the header and of a record just right and just wrong. The proof is in
-- proofs/FileCases.antt.
use Rattle.std.specs.Prelude.{ℕ, ◌≡◌, List, [], ◌∷◌, ◌++◌, map, get_or, take, set, replicate, Ok, Some}
use Rattle.rows.specs.Rows.{entity_no}
use Rattle.record.specs.declared.Kind.{Kind}
use Rattle.record.specs.declared.Kind.TheVariants.{Read, Write, Load, Fork, Execve}
use Rattle.record.specs.declared.Record.{Record}
use Rattle.record.specs.declared.Record.TheVariants as records
use Rattle.record.specs.Layout.{kind_of}
use Rattle.record.specs.Decode.{decode_of}
use Rattle.record.specs.Encode.{encode_of}
use Rattle.rules.specs.declared.BatchAnswer.{BatchAnswer}
use Rattle.rules.specs.Trail.{counts, fresh_counts}
use Rattle.rules.specs.Batch.{Batched, batch_of}
use Rattle.rules.specs.Worked.{header, answer, room}
use Rattle.rules.specs.Order.{no_rows, declare, event}

-- the refusal of a header with byte b at i, and of one cut to n bytes
abbrev pub header_with : ℕ → ℕ → ℕ
header_with i b = (batch_of fresh_counts no_rows (set header i b)).answer.refusal

abbrev pub header_of : ℕ → ℕ
header_of n = (batch_of fresh_counts no_rows (take n header)).answer.refusal

-- bytes after a header, taken into a fresh trail
abbrev pub taken_in : List ℕ → Batched
taken_in bytes = batch_of fresh_counts (room 8) (header ++ bytes)

-- the declaration of object 0, with byte b at i
abbrev pub declaration_with : ℕ → ℕ → ℕ
declaration_with i b = (taken_in (set (declare 0 0) i b)).answer.refusal

-- object 0 and subject 1 are declared, then 1 reads 0 at time 1, with byte b at i
abbrev pub read_with : ℕ → ℕ → Batched
read_with i b = taken_in (declare 0 0 ++ (declare 1 1 ++ set (event 1 0 1 1) i b))

abbrev pub read_refusal : ℕ → ℕ → ℕ
read_refusal i b = (read_with i b).answer.refusal

-- a declaration, and n bytes of a second
abbrev pub cut_to : ℕ → BatchAnswer
cut_to n = (taken_in (declare 0 0 ++ take n (declare 1 1))).answer

-- 1 reads 0 at the time of four bytes
abbrev pub read_at : ℕ → ℕ → ℕ → ℕ → List ℕ
read_at a b c d = take 8 (event 1 0 1 0) ++ (a ∷ b ∷ c ∷ d ∷ [])

-- records, no two bytes of which are alike but the zero fields, and their bytes
abbrev pub numbered : Record
numbered = records.Event (record { kind = Load; source = entity_no 513; target = entity_no 1033; time = 134678021 })

abbrev pub numbered_bytes : List ℕ
numbered_bytes = 3 ∷ 0 ∷ 1 ∷ 2 ∷ 9 ∷ 4 ∷ 0 ∷ 0 ∷ 5 ∷ 6 ∷ 7 ∷ 8 ∷ []

abbrev pub numbered_subject : Record
numbered_subject = records.Declaration (record { sort = 1; entity = entity_no 1541 })

abbrev pub numbered_subject_bytes : List ℕ
numbered_subject_bytes = 0 ∷ 1 ∷ 5 ∷ 6 ∷ replicate 8 0

abbrev pub greatest_event : Record
greatest_event = records.Event (record { kind = Execve; source = entity_no 65535; target = entity_no 65535; time = 4294967295 })

abbrev pub greatest_bytes : List ℕ
greatest_bytes = 5 ∷ 0 ∷ 255 ∷ 255 ∷ 255 ∷ 255 ∷ 0 ∷ 0 ∷ 255 ∷ 255 ∷ 255 ∷ 255 ∷ []

abbrev pub greatest_object : Record
greatest_object = records.Declaration (record { sort = 0; entity = entity_no 65535 })

abbrev pub encoded_kind : Kind → ℕ
encoded_kind k = get_or (encode_of (records.Event (record { kind = k; source = entity_no 0; target = entity_no 1; time = 1 }))) 0 0

pub record FileCases : Type 0 where
  -- "Header, 8 bytes: hex 53 4C 54 ("SLT"), a 16-bit version, 1, then three zero bytes."; document 02, 2.4: version 1 or 2
  pub mark_0 : map (header_with 0) (0x52 ∷ 0x53 ∷ 0x54 ∷ []) ≡ 1 ∷ 0 ∷ 1 ∷ []
  pub mark_1 : map (header_with 1) (0x4B ∷ 0x4C ∷ 0x4D ∷ []) ≡ 1 ∷ 0 ∷ 1 ∷ []
  pub mark_2 : map (header_with 2) (0x53 ∷ 0x54 ∷ 0x55 ∷ []) ≡ 1 ∷ 0 ∷ 1 ∷ []
  pub version_low : map (header_with 3) (0 ∷ 1 ∷ 2 ∷ 3 ∷ 255 ∷ []) ≡ 2 ∷ 0 ∷ 0 ∷ 2 ∷ 2 ∷ []
  pub version_high : map (header_with 4) (0 ∷ 1 ∷ 255 ∷ []) ≡ 0 ∷ 2 ∷ 2 ∷ []
  pub zero_5 : map (header_with 5) (0 ∷ 1 ∷ 255 ∷ []) ≡ 0 ∷ 1 ∷ 1 ∷ []
  pub zero_6 : map (header_with 6) (0 ∷ 1 ∷ 255 ∷ []) ≡ 0 ∷ 1 ∷ 1 ∷ []
  pub zero_7 : map (header_with 7) (0 ∷ 1 ∷ 255 ∷ []) ≡ 0 ∷ 1 ∷ 1 ∷ []
  pub header_length : map header_of (0 ∷ 4 ∷ 7 ∷ 8 ∷ []) ≡ 1 ∷ 1 ∷ 1 ∷ 0 ∷ []
  -- a declaration with 1, and with 255, at each byte in turn: a read of entity 0, a sort, a number that is not the next,
  -- and zero fields
  pub declaration_1 : map (λ i. declaration_with i 1) (0 ∷ 1 ∷ 2 ∷ 3 ∷ 4 ∷ 5 ∷ 6 ∷ 7 ∷ 8 ∷ 9 ∷ 10 ∷ 11 ∷ []) ≡ 5 ∷ 0 ∷ 6 ∷ 6 ∷ replicate 8 4
  pub declaration_255 : map (λ i. declaration_with i 255) (0 ∷ 1 ∷ 2 ∷ 3 ∷ 4 ∷ 5 ∷ 6 ∷ 7 ∷ 8 ∷ 9 ∷ 10 ∷ 11 ∷ []) ≡ 4 ∷ 4 ∷ 6 ∷ 6 ∷ replicate 8 4
  -- "sort, 0 object or 1 subject"; "sort above 1"
  pub sort : map (declaration_with 1) (0 ∷ 1 ∷ 2 ∷ []) ≡ 0 ∷ 0 ∷ 4 ∷ []
  -- an event with 1, and with 255, at each byte in turn: kind, a zero field, source, target, a zero field, time
  pub event_1 : map (λ i. read_refusal i 1) (0 ∷ 1 ∷ 2 ∷ 3 ∷ 4 ∷ 5 ∷ 6 ∷ 7 ∷ 8 ∷ 9 ∷ 10 ∷ 11 ∷ []) ≡ 0 ∷ 4 ∷ 7 ∷ 5 ∷ 0 ∷ 5 ∷ 4 ∷ 4 ∷ replicate 4 0
  pub event_255 : map (λ i. read_refusal i 255) (0 ∷ 1 ∷ 2 ∷ 3 ∷ 4 ∷ 5 ∷ 6 ∷ 7 ∷ 8 ∷ 9 ∷ 10 ∷ 11 ∷ []) ≡ 4 ∷ 4 ∷ 5 ∷ 5 ∷ 5 ∷ 5 ∷ 4 ∷ 4 ∷ replicate 4 0
  -- "Kind above 5", in a version 1 file: read, load and execve of 0 by 1; a write and a fork have the wrong sorts; kind 0 is a declaration
  pub kind : map (read_refusal 0) (0 ∷ 1 ∷ 2 ∷ 3 ∷ 4 ∷ 5 ∷ 6 ∷ 7 ∷ []) ≡ 4 ∷ 0 ∷ 8 ∷ 0 ∷ 8 ∷ 0 ∷ 4 ∷ 4 ∷ []
  pub kinds : map kind_of (1 ∷ 2 ∷ 3 ∷ 4 ∷ 5 ∷ []) ≡ Read ∷ Write ∷ Load ∷ Fork ∷ Execve ∷ []
  -- "Multi-byte fields are little-endian.", past 8, 16 and 24 bits
  pub time_bytes : map (λ i. (read_with i 2).counts.last) (8 ∷ 9 ∷ 10 ∷ 11 ∷ []) ≡ 2 ∷ 513 ∷ 131073 ∷ 33554433 ∷ []
  pub decoded_event : decode_of 1 numbered_bytes ≡ Ok (Some numbered)
  pub decoded_declaration : decode_of 1 numbered_subject_bytes ≡ Ok (Some numbered_subject)
  pub encoded_event : encode_of numbered ≡ numbered_bytes
  pub encoded_declaration : encode_of numbered_subject ≡ numbered_subject_bytes
  pub decoded_greatest : decode_of 1 greatest_bytes ≡ Ok (Some greatest_event)
  pub encoded_greatest : map encode_of (greatest_event ∷ greatest_object ∷ []) ≡ greatest_bytes ∷ (0 ∷ 0 ∷ 255 ∷ 255 ∷ replicate 8 0) ∷ []
  pub encoded_kinds : map encoded_kind (Read ∷ Write ∷ Load ∷ Fork ∷ Execve ∷ []) ≡ 1 ∷ 2 ∷ 3 ∷ 4 ∷ 5 ∷ []
  -- the greatest time; after it an earlier one is refused, and the same accepted
  pub greatest_time : (taken_in (declare 0 0 ++ (declare 1 1 ++ read_at 255 255 255 255))).counts ≡ counts 2 2 1 1 4294967295
  pub after_greatest : map (λ a. (taken_in (declare 0 0 ++ (declare 1 1 ++ (read_at 255 255 255 255 ++ read_at a 255 255 255)))).answer) (254 ∷ 255 ∷ [])
      ≡ answer 9 3 0 ∷ answer 0 4 1 ∷ []
  -- "One to 11 bytes remain."
  pub cut_short : map cut_to (0 ∷ 1 ∷ 2 ∷ 3 ∷ 4 ∷ 5 ∷ 6 ∷ 7 ∷ 8 ∷ 9 ∷ 10 ∷ 11 ∷ 12 ∷ []) ≡ answer 0 1 0 ∷ (replicate 11 (answer 3 1 0) ++ (answer 0 2 0 ∷ []))
  -- "Records are taken in order until the first one refused." One that cannot be read, one that is not taken in
  pub first_refused_4 : (taken_in (declare 0 0 ++ (declare 1 2 ++ declare 1 1))).answer ≡ answer 4 1 0
  pub first_refused_6 : (taken_in (declare 0 0 ++ (declare 2 1 ++ declare 1 2))).answer ≡ answer 6 1 0
  pub first_refused_3 : (taken_in (declare 0 0 ++ (declare 2 1 ++ (0 ∷ [])))).answer ≡ answer 6 1 0
