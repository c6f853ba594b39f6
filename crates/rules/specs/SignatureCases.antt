-- Document 02, 2.4: signatures in a file, by its version: the bytes of a record and of the header. The proof is in
-- proofs/SignatureCases.antt.
use Rattle.std.specs.Prelude.{ℕ, ◌≡◌, List, [], ◌∷◌, ◌++◌, map, take, set, replicate, Ok, Err, Some}
use Rattle.refusals.specs.declared.Refusal.TheVariants.{BadField}
use Rattle.record.specs.Decode.{decode_of}
use Rattle.record.specs.Encode.{encode_of}
use Rattle.rules.specs.declared.BatchAnswer.{BatchAnswer}
use Rattle.rules.specs.Trail.{fresh_counts}
use Rattle.rules.specs.Batch.{Batched, batch_of}
use Rattle.rules.specs.KeptLog.{signature_record}
use Rattle.rules.specs.Worked.{room, answer}
use Rattle.rules.specs.Order.{declare, event, no_rows}
use Rattle.rules.specs.FileCases.{numbered, numbered_bytes, numbered_subject, numbered_subject_bytes, greatest_event, greatest_bytes}

-- the header of a file whose version has two given bytes, and of a file of version 2
abbrev pub version_header : ℕ → ℕ → List ℕ
version_header low high = 0x53 ∷ 0x4C ∷ 0x54 ∷ low ∷ high ∷ 0 ∷ 0 ∷ 0 ∷ []

abbrev pub header_2 : List ℕ
header_2 = version_header 2 0

-- a signature of entity n
abbrev pub sign : ℕ → List ℕ
sign n = 6 ∷ 0 ∷ n ∷ replicate 9 0

-- bytes after a header of version 2, taken into a fresh trail
abbrev pub taken_in_2 : List ℕ → Batched
taken_in_2 bytes = batch_of fresh_counts (room 8) (header_2 ++ bytes)

-- each byte of a record
abbrev pub places : List ℕ
places = 0 ∷ 1 ∷ 2 ∷ 3 ∷ 4 ∷ 5 ∷ 6 ∷ 7 ∷ 8 ∷ 9 ∷ 10 ∷ 11 ∷ []

-- objects 0 and 1 are declared, then 0 is signed, with byte b at i
abbrev pub signature_with : ℕ → ℕ → ℕ
signature_with i b = (taken_in_2 (declare 0 0 ++ (declare 1 0 ++ set (sign 0) i b))).answer.refusal

-- object 0 is declared and signed, in a file whose version has two given bytes
abbrev pub signed_after : ℕ → ℕ → BatchAnswer
signed_after low high = (batch_of fresh_counts (room 8) (version_header low high ++ (declare 0 0 ++ sign 0))).answer

-- of FileCases, in a file of version 2: the declaration of object 0, and the read of 0 by 1 at time 1, with byte b at i
abbrev pub declaration_with_2 : ℕ → ℕ → ℕ
declaration_with_2 i b = (taken_in_2 (set (declare 0 0) i b)).answer.refusal

abbrev pub read_with_2 : ℕ → ℕ → ℕ
read_with_2 i b = (taken_in_2 (declare 0 0 ++ (declare 1 1 ++ set (event 1 0 1 1) i b))).answer.refusal

-- a signature of entity 513, and of the greatest number
abbrev pub numbered_signature : List ℕ
numbered_signature = 6 ∷ 0 ∷ 1 ∷ 2 ∷ replicate 8 0

abbrev pub greatest_signature : List ℕ
greatest_signature = 6 ∷ 0 ∷ 255 ∷ 255 ∷ replicate 8 0

pub record SignatureCases : Type 0 where
  -- "Version 2 files may hold record kind 6: signs the object in bytes 2-3, other fields 0.": a signature with 1, and with 255, at each byte
  -- in turn: a read of 0 by itself, zero fields, another entity
  pub signature_1 : map (λ i. signature_with i 1) places ≡ 7 ∷ 4 ∷ 0 ∷ 5 ∷ replicate 8 4
  pub signature_255 : map (λ i. signature_with i 255) places ≡ 4 ∷ 4 ∷ 5 ∷ 5 ∷ replicate 8 4
  -- kinds 0 to 8 in its place: a declaration that is not the next, reads and the like of 0 by itself; kind 7 is none
  pub kinds : map (signature_with 0) (0 ∷ 1 ∷ 2 ∷ 3 ∷ 4 ∷ 5 ∷ 6 ∷ 7 ∷ 8 ∷ []) ≡ 6 ∷ 7 ∷ 7 ∷ 7 ∷ 7 ∷ 7 ∷ 0 ∷ 4 ∷ 4 ∷ []
  -- "Version 1 files may not." "Refusal 2 now means neither 1 nor 2.": versions 0 to 3, 256 to 259, and 512
  pub versions : map (λ v. signed_after v 0) (0 ∷ 1 ∷ 2 ∷ 3 ∷ []) ≡ answer 2 0 0 ∷ answer 4 1 0 ∷ answer 0 2 0 ∷ answer 2 0 0 ∷ []
  pub versions_256 : map (λ v. signed_after v 1) (0 ∷ 1 ∷ 2 ∷ 3 ∷ []) ≡ replicate 4 (answer 2 0 0)
  pub version_512 : signed_after 0 2 ≡ answer 2 0 0
  -- the header of version 2 with 1 at each byte in turn, and cut
  pub header_bytes : map (λ i. (batch_of fresh_counts no_rows (set header_2 i 1)).answer.refusal) (0 ∷ 1 ∷ 2 ∷ 3 ∷ 4 ∷ 5 ∷ 6 ∷ 7 ∷ [])
      ≡ 1 ∷ 1 ∷ 1 ∷ 0 ∷ 2 ∷ 1 ∷ 1 ∷ 1 ∷ []
  pub header_length : map (λ n. (batch_of fresh_counts no_rows (take n header_2)).answer) (0 ∷ 7 ∷ 8 ∷ [])
      ≡ answer 1 0 0 ∷ answer 1 0 0 ∷ answer 0 0 0 ∷ []
  -- "One to 11 bytes remain."
  pub cut_short : map (λ n. (taken_in_2 (declare 0 0 ++ take n (sign 0))).answer) (0 ∷ 1 ∷ 2 ∷ 11 ∷ 12 ∷ [])
      ≡ answer 0 1 0 ∷ answer 3 1 0 ∷ answer 3 1 0 ∷ answer 3 1 0 ∷ answer 0 2 0 ∷ []
  -- declarations and events are read as in version 1: with 1, and with 255, at each byte in turn
  pub declaration_1 : map (λ i. declaration_with_2 i 1) places ≡ 5 ∷ 0 ∷ 6 ∷ 6 ∷ replicate 8 4
  pub declaration_255 : map (λ i. declaration_with_2 i 255) places ≡ 4 ∷ 4 ∷ 6 ∷ 6 ∷ replicate 8 4
  pub event_1 : map (λ i. read_with_2 i 1) places ≡ 0 ∷ 4 ∷ 7 ∷ 5 ∷ 0 ∷ 5 ∷ 4 ∷ 4 ∷ replicate 4 0
  pub event_255 : map (λ i. read_with_2 i 255) places ≡ 4 ∷ 4 ∷ 5 ∷ 5 ∷ 5 ∷ 5 ∷ 4 ∷ 4 ∷ replicate 4 0
  -- "sort above 1": sort 2 is not declared
  pub sort : map (declaration_with_2 1) (0 ∷ 1 ∷ 2 ∷ 3 ∷ []) ≡ 0 ∷ 0 ∷ 4 ∷ 4 ∷ []
  -- kind 6 with the target and the time of an event
  pub event_kind : map (read_with_2 0) (0 ∷ 1 ∷ 2 ∷ 3 ∷ 4 ∷ 5 ∷ 6 ∷ 7 ∷ []) ≡ 4 ∷ 0 ∷ 8 ∷ 0 ∷ 8 ∷ 0 ∷ 4 ∷ 4 ∷ []
  -- "Multi-byte fields are little-endian."
  pub decoded : map (decode_of 2) (numbered_signature ∷ greatest_signature ∷ []) ≡ Ok (Some (signature_record 513)) ∷ Ok (Some (signature_record 65535)) ∷ []
  pub decoded_in_1 : map (decode_of 1) (numbered_signature ∷ greatest_signature ∷ []) ≡ Err BadField ∷ Err BadField ∷ []
  pub decoded_others : map (decode_of 2) (numbered_bytes ∷ numbered_subject_bytes ∷ greatest_bytes ∷ declare 0 2 ∷ [])
      ≡ Ok (Some numbered) ∷ Ok (Some numbered_subject) ∷ Ok (Some greatest_event) ∷ Err BadField ∷ []
  pub encoded : map (λ x. encode_of (signature_record x)) (0 ∷ 513 ∷ 65535 ∷ []) ≡ sign 0 ∷ numbered_signature ∷ greatest_signature ∷ []
