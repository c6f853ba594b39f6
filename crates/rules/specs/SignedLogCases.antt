-- Document 02, 2.4: signed objects in sound tables, in the kept log and in the trail regrown from it. The proof is in
-- proofs/SignedLogCases.antt.
use Rattle.std.specs.Prelude.{ℕ, ◌≡◌, Bool, true, false, [], ◌∷◌, ◌++◌, map, replicate}
use Rattle.rows.specs.Rows.{edge_row, put_edge}
use Rattle.rules.specs.Trail.{tables, counts, fresh_counts, none}
use Rattle.rules.specs.Batch.{Batched, batch_of}
use Rattle.rules.specs.KeptLog.{KeptLog, kept_log_of}
use Rattle.rules.specs.Worked.{header, declarations, events, room, answer, log_events}
use Rattle.rules.specs.Order.{declare, event, used, full}
use Rattle.rules.specs.SoundCases.{version_rows, edge_rows, versions_used, sound_with, entity_is}
use Rattle.rules.specs.LogCases.{log_of, log_refused, sound_declared, sound_events}
use Rattle.rules.specs.SignatureCases.{header_2, sign, taken_in_2}
use Rattle.rules.specs.SignedCases.{signed_worked, signed_tables, one_used, past_used, sorted_rows}

-- whether the tables of SoundCases are sound with sorts m and n of objects 0 and 3; with another last edge, of kind k, from version f to o
abbrev pub sorts_are : ℕ → ℕ → Bool
sorts_are m n = sound_with (versions_used 5) (tables (sorted_rows m n) version_rows edge_rows)

abbrev pub sorted_edge : ℕ → ℕ → ℕ → ℕ → ℕ → Bool
sorted_edge m n f o k = sound_with (versions_used 5) (tables (sorted_rows m n) version_rows (put_edge edge_rows 4 (edge_row f o k 9 1 9)))

-- the kept log of what a batch left, in an output of n bytes
abbrev pub log_after : Batched → ℕ → KeptLog
log_after b n = kept_log_of b.counts b.tables (replicate n 9)

abbrev pub sorted_log : ℕ → ℕ → ℕ → KeptLog
sorted_log m n k = kept_log_of (versions_used 5) (tables (sorted_rows m n) version_rows edge_rows) (replicate k 9)

-- subject 0 writes object 1, which is signed, and reads it
abbrev pub signed_between : Batched
signed_between = taken_in_2 (declare 0 1 ++ (declare 1 0 ++ (event 2 0 1 1 ++ (sign 1 ++ event 1 1 0 2))))

abbrev pub between_left : Batched
between_left = record {
  answer = answer 0 5 1;
  counts = counts 2 3 2 2 2;
  tables =
      tables (1 ∷ 2 ∷ 2 ∷ 1 ∷ replicate 12 7) (0 ∷ 0 ∷ 0 ∷ none ∷ 1 ∷ 0 ∷ 1 ∷ none ∷ 0 ∷ 2 ∷ 2 ∷ 0 ∷ replicate 20 7)
      (0 ∷ 1 ∷ 2 ∷ 1 ∷ 1 ∷ 1 ∷ 1 ∷ 2 ∷ 1 ∷ 2 ∷ 1 ∷ 2 ∷ replicate 36 7);
}

-- the kept log of the signed trail, taken into a fresh trail
abbrev pub regrown : Batched
regrown = batch_of fresh_counts (room 8) (log_after signed_worked 116).out

pub record SignedLogCases : Type 0 where
  -- "sort becomes 2, which still counts as an object and is sound": object 0, from which edges of kinds 1, 3 and 5 go and which one of kind
  -- 2 enters; object 3, without an edge; both
  pub sorts_of_0 : map (λ m. sorts_are m 0) (0 ∷ 1 ∷ 2 ∷ 3 ∷ 4 ∷ 258 ∷ 4294967295 ∷ []) ≡ true ∷ false ∷ true ∷ replicate 4 false
  pub sorts_of_3 : map (sorts_are 0) (0 ∷ 1 ∷ 2 ∷ 3 ∷ 4 ∷ 258 ∷ 4294967295 ∷ []) ≡ true ∷ true ∷ true ∷ replicate 4 false
  pub both_signed : sorts_are 2 2 ≡ true
  -- subjects with sort 2
  pub subject_1 : entity_is 1 2 3 ≡ false
  pub subject_2 : entity_is 2 2 2 ≡ false
  -- another last edge, of kinds 0 to 6: from object 0 to subject 1, from subject 1 to object 0, between objects
  pub edge_from_signed : map (sorted_edge 2 0 0 3) (0 ∷ 1 ∷ 2 ∷ 3 ∷ 4 ∷ 5 ∷ 6 ∷ []) ≡ false ∷ true ∷ false ∷ true ∷ false ∷ true ∷ false ∷ []
  pub edge_to_signed : map (sorted_edge 2 0 3 0) (0 ∷ 1 ∷ 2 ∷ 3 ∷ 4 ∷ 5 ∷ 6 ∷ []) ≡ false ∷ false ∷ true ∷ replicate 4 false
  pub edge_signed_to_object : map (sorted_edge 2 0 0 4) (0 ∷ 1 ∷ 2 ∷ 3 ∷ 4 ∷ 5 ∷ 6 ∷ []) ≡ replicate 7 false
  pub edge_object_to_signed : map (sorted_edge 2 0 4 0) (0 ∷ 1 ∷ 2 ∷ 3 ∷ 4 ∷ 5 ∷ 6 ∷ []) ≡ replicate 7 false
  pub edge_between_signed : map (sorted_edge 2 2 0 4) (0 ∷ 1 ∷ 2 ∷ 3 ∷ 4 ∷ 5 ∷ 6 ∷ []) ≡ replicate 7 false
  -- a batch is refused for sort 3, and not for sort 2
  pub sort_3 : map (λ s. (batch_of (used 1) (tables (s ∷ 0 ∷ 1 ∷ 1 ∷ []) full.versions full.edges) header).answer) (0 ∷ 1 ∷ 2 ∷ 3 ∷ [])
      ≡ answer 0 0 0 ∷ answer 16 0 0 ∷ answer 0 0 0 ∷ answer 16 0 0 ∷ []
  -- "The kept log declares a signed object with sort 0, puts signatures last by entity number and is version 2 if there are any"
  pub log_exact : log_after signed_worked 116 ≡ log_of (header_2 ++ (declarations ++ (log_events ++ sign 2))) 116
  -- "Bytes after it are untouched." "15. Output shorter than the kept log."; without the signature it has 104 bytes
  pub log_longer : log_after signed_worked 118 ≡ log_of (header_2 ++ (declarations ++ (log_events ++ (sign 2 ++ (9 ∷ 9 ∷ []))))) 116
  pub log_short : map (log_after signed_worked) (104 ∷ 115 ∷ []) ≡ log_refused 15 104 ∷ log_refused 15 115 ∷ []
  -- "else version 1", though the file was of version 2
  pub log_none : log_after (taken_in_2 (declarations ++ events 1)) 104 ≡ log_of (header ++ (declarations ++ log_events)) 104
  pub log_none_empty : log_after (taken_in_2 []) 8 ≡ log_of header 8
  -- a row of sort 2 past the counts is no signed object
  pub log_past : kept_log_of one_used (past_used 0 2) (replicate 20 9) ≡ log_of (header ++ declare 0 0) 20
  -- of the tables of SoundCases, with the first entity signed, the last, and both; with sort 3 they are not sound
  pub log_0 : sorted_log 2 0 128 ≡ log_of (header_2 ++ (sound_declared ++ (sound_events ++ sign 0))) 128
  pub log_3 : sorted_log 0 2 128 ≡ log_of (header_2 ++ (sound_declared ++ (sound_events ++ sign 3))) 128
  pub log_two : sorted_log 2 2 140 ≡ log_of (header_2 ++ (sound_declared ++ (sound_events ++ (sign 0 ++ sign 3)))) 140
  pub log_two_short : sorted_log 2 2 139 ≡ log_refused 15 139
  pub log_sort_3 : sorted_log 3 0 140 ≡ log_refused 16 140
  -- "by entity number", whichever was signed first; "last", though an event came after the signature
  pub log_turned : map (λ s. log_after (taken_in_2 (declarations ++ s)) 80) ((sign 0 ++ sign 3) ∷ (sign 3 ++ sign 0) ∷ [])
      ≡ replicate 2 (log_of (header_2 ++ (declarations ++ (sign 0 ++ sign 3))) 80)
  pub log_last : log_after signed_between 68 ≡ log_of (header_2 ++ (declare 0 1 ++ (declare 1 0 ++ (event 2 0 1 1 ++ (event 1 1 0 2 ++ sign 1))))) 68
  -- "Regrown trails have the same signatures.": 4 declarations, 4 events and a signature
  pub regrown_answer : regrown.answer ≡ answer 0 9 6
  pub regrown_counts : regrown.counts ≡ counts 4 5 4 4 6
  pub regrown_tables : regrown.tables ≡
      tables signed_tables.entities signed_tables.versions
      (0 ∷ 1 ∷ 1 ∷ 1 ∷ 1 ∷ 1
      ∷ 1 ∷ 2 ∷ 2 ∷ 2 ∷ 1 ∷ 2
      ∷ 3 ∷ 4 ∷ 1 ∷ 5 ∷ 1 ∷ 5
      ∷ 4 ∷ 2 ∷ 2 ∷ 6 ∷ 1 ∷ 6
      ∷ replicate 24 7)
  pub regrown_log : log_after regrown 116 ≡ log_of (header_2 ++ (declarations ++ (log_events ++ sign 2))) 116
  pub regrown_write : (batch_of regrown.counts regrown.tables (header ++ event 2 1 2 8)).answer ≡ answer 17 0 0
  -- where an event came after the signature: the trail, and regrown
  pub between : signed_between ≡ between_left
  pub regrown_between : batch_of fresh_counts (room 8) (log_after signed_between 68).out ≡ between_left
  -- of the tables of SoundCases, too: 4 declarations, 5 events and 2 signatures; the versions get other numbers
  pub regrown_two : (batch_of fresh_counts (room 8) (sorted_log 2 2 140).out).answer ≡ answer 0 11 3
  pub regrown_two_entities : (batch_of fresh_counts (room 8) (sorted_log 2 2 140).out).tables.entities
      ≡ 2 ∷ 4 ∷ 1 ∷ 6 ∷ 1 ∷ 2 ∷ 2 ∷ 3 ∷ replicate 8 7
