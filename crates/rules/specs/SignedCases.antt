-- Document 02, 2.4: "A signed report takes no more writes." What a signature makes of the tables, and what is refused. The proof is in
-- proofs/SignedCases.antt.
use Rattle.std.specs.Prelude.{ℕ, ◌≡◌, List, [], ◌∷◌, ◌++◌, map, take, set, replicate}
use Rattle.refusals.specs.declared.Refusal.TheVariants.{Undeclared, SourceIsTarget, WrongSort, Signed}
use Rattle.rows.specs.declared.Counts.{Counts}
use Rattle.rows.specs.Rows.{edge_row, edge_at}
use Rattle.rules.specs.declared.BatchAnswer.{BatchAnswer}
use Rattle.rules.specs.Trail.{Tables, tables, counts, fresh_counts, none, most_accepted}
use Rattle.rules.specs.Batch.{Batched, batch_of}
use Rattle.rules.specs.Backward.{backward_of}
use Rattle.rules.specs.Forward.{forward_of}
use Rattle.rules.specs.Worked.{header, declarations, events, room, answer, batch as worked_batch}
use Rattle.rules.specs.Order.{declare, event, used, full_of, full, unsound, no_rows, Refuses}
use Rattle.rules.specs.SoundCases.{versions_used}
use Rattle.rules.specs.FileCases.{read_at}
use Rattle.rules.specs.RefusalCases.{longer}
use Rattle.rules.specs.RecordCases.{grown_events}
use Rattle.rules.specs.TraceCases.{backward_to, forward_to}
use Rattle.rules.specs.SignatureCases.{header_2, sign, taken_in_2}

-- the worked file as a file of version 2, then the signature of the report, then bytes
abbrev pub signed_file : List ℕ → List ℕ
signed_file bytes = header_2 ++ (declarations ++ (events 1 ++ (sign 2 ++ bytes)))

abbrev pub signed_then : List ℕ → Batched
signed_then bytes = batch_of fresh_counts (room 8) (signed_file bytes)

abbrev pub signed_worked : Batched
signed_worked = signed_then []

-- the tables that it leaves
abbrev pub signed_tables : Tables
signed_tables =
    tables (0 ∷ 0 ∷ 1 ∷ 4 ∷ 2 ∷ 2 ∷ 0 ∷ 3 ∷ replicate 8 7)
    (0 ∷ 0 ∷ 0 ∷ none
    ∷ 1 ∷ 0 ∷ 1 ∷ none
    ∷ 2 ∷ 0 ∷ 6 ∷ none
    ∷ 3 ∷ 0 ∷ 0 ∷ none
    ∷ 1 ∷ 5 ∷ 5 ∷ 1
    ∷ replicate 12 7)
    (0 ∷ 1 ∷ 1 ∷ 1 ∷ 2 ∷ 3
    ∷ 1 ∷ 2 ∷ 2 ∷ 2 ∷ 2 ∷ 4
    ∷ 3 ∷ 4 ∷ 1 ∷ 5 ∷ 2 ∷ 7
    ∷ 4 ∷ 2 ∷ 2 ∷ 6 ∷ 1 ∷ 6
    ∷ replicate 24 7)

-- the study and the montage are signed before the events
abbrev pub signed_first : Batched
signed_first = taken_in_2 (declarations ++ (sign 0 ++ (sign 3 ++ events 1)))

-- a signature of entity x alone
abbrev pub signs : Counts → Tables → ℕ → BatchAnswer
signs c t x = (batch_of c t (header_2 ++ sign x)).answer

-- the trail of Order, object 0 of which is signed
abbrev pub signed_full_of : ℕ → Tables
signed_full_of n = tables (2 ∷ 0 ∷ 1 ∷ 1 ∷ []) full.versions (full_of n).edges

abbrev pub signed_full : Tables
signed_full = signed_full_of 1

-- entity 0 has sort m; past the counts stands a row of sort n
abbrev pub one_used : Counts
one_used = counts 1 1 0 0 5

abbrev pub past_used : ℕ → ℕ → Tables
past_used m n = tables (m ∷ 0 ∷ n ∷ 1 ∷ []) full.versions (replicate 6 7)

-- subject 0 wrote object 1 at 5, which is signed; the edge stands for all that was accepted, and no row is left
abbrev pub signed_target : Tables
signed_target = tables (1 ∷ 0 ∷ 2 ∷ 1 ∷ []) full.versions (0 ∷ 1 ∷ 2 ∷ 5 ∷ most_accepted ∷ 5 ∷ [])

-- the entity rows of SoundCases, with sorts m and n of objects 0 and 3; tables with room for one row more of each
abbrev pub sorted_rows : ℕ → ℕ → List ℕ
sorted_rows m n = m ∷ 0 ∷ 1 ∷ 3 ∷ 1 ∷ 2 ∷ n ∷ 4 ∷ []

abbrev pub room_sorted : ℕ → ℕ → Tables
room_sorted m n = tables (sorted_rows m n ++ replicate 2 7) (longer 2 4 6).versions (longer 2 4 6).edges

-- the refusal of an event where object 0 is signed and there is room for each row
abbrev pub signed_refusal : ℕ → ℕ → ℕ → ℕ → ℕ
signed_refusal k u v t = (batch_of (versions_used 5) (room_sorted 2 0) (header_2 ++ event k u v t)).answer.refusal

-- subject 1 reads object 0 twice, which is signed and read once more; it writes 0 twice, which is signed and written once more
abbrev pub read_then_signed : List ℕ
read_then_signed = declare 0 0 ++ (declare 1 1 ++ (event 1 0 1 1 ++ (event 1 0 1 2 ++ (sign 0 ++ event 1 0 1 3))))

abbrev pub written_then_signed : List ℕ
written_then_signed = declare 0 0 ++ (declare 1 1 ++ (event 2 1 0 1 ++ (event 2 1 0 2 ++ (sign 0 ++ event 2 1 0 3))))

pub record SignedCases : Type 0 where
  -- "The entity's sort becomes 2, ..; accepted and the last time stay.": the worked file and the signature of the report
  pub signed_answer : signed_worked.answer ≡ answer 0 12 11
  pub signed_counts : signed_worked.counts ≡ counts 4 5 4 7 7
  pub signed_tables_lem : signed_worked.tables ≡ signed_tables
  -- in a file of its own
  pub signed_next : batch_of (worked_batch 8).counts (worked_batch 8).tables (header_2 ++ sign 2)
      ≡ record { answer = answer 0 1 0; counts = counts 4 5 4 7 7; tables = signed_tables }
  -- the study and the montage are read after their signatures
  pub first_answer : signed_first.answer ≡ answer 0 13 11
  pub first_counts : signed_first.counts ≡ counts 4 5 4 7 7
  pub first_tables : signed_first.tables ≡ tables (2 ∷ 0 ∷ 1 ∷ 4 ∷ 0 ∷ 2 ∷ 2 ∷ 3 ∷ replicate 8 7) signed_tables.versions signed_tables.edges
  -- the latest version stays: the second of the report, version 5, in the trail of RecordCases
  pub latest_stays : (taken_in_2 (declarations ++ (grown_events ++ sign 2))).tables.entities ≡ 0 ∷ 0 ∷ 1 ∷ 6 ∷ 2 ∷ 5 ∷ 0 ∷ 3 ∷ replicate 8 7
  -- traces are as before: P2 to P5
  pub signed_backward : map (λ t. (backward_of (counts 4 5 4 7 7) signed_tables 2 t (replicate 5 9) (replicate 4 9)).marks) (1 ∷ 4 ∷ 5 ∷ 6 ∷ [])
      ≡ (0 ∷ 0 ∷ 1 ∷ 0 ∷ []) ∷ (1 ∷ 1 ∷ 1 ∷ 0 ∷ []) ∷ (1 ∷ 1 ∷ 1 ∷ 0 ∷ []) ∷ (1 ∷ 1 ∷ 1 ∷ 1 ∷ []) ∷ []
  pub backward_whole : backward_of (counts 4 5 4 7 7) signed_tables 2 6 (replicate 6 9) (replicate 5 9)
      ≡ backward_to 4 (1 ∷ 1 ∷ 1 ∷ 1 ∷ 1 ∷ 9 ∷ []) (1 ∷ 1 ∷ 1 ∷ 1 ∷ 9 ∷ [])
  pub forward_whole : forward_of (counts 4 5 4 7 7) signed_tables (3 ∷ []) 0 (replicate 6 9) (replicate 5 9)
      ≡ forward_to 3 0 (0 ∷ 0 ∷ 1 ∷ 1 ∷ 1 ∷ 9 ∷ []) (0 ∷ 1 ∷ 1 ∷ 1 ∷ 9 ∷ [])
  -- "Signing a subject gives 8, an unknown entity 5": of object 0 and subject 1
  pub signs_each : map (signs (used 1) full) (0 ∷ 1 ∷ 2 ∷ 9 ∷ 255 ∷ []) ≡ answer 0 1 0 ∷ answer 8 0 0 ∷ replicate 3 (answer 5 0 0)
  pub signs_fresh : map (λ t. signs fresh_counts t 0) (no_rows ∷ full ∷ signed_full ∷ []) ≡ replicate 3 (answer 5 0 0)
  -- "checked 5 then 8": rows past the counts, of an object, a subject and a signed object
  pub signs_past : map (λ n. signs one_used (past_used 0 n) 1) (0 ∷ 1 ∷ 2 ∷ []) ≡ replicate 3 (answer 5 0 0)
  -- "17, .. a second signature": in the same file, in the next, after another's and after a read
  pub second : (taken_in_2 (declare 0 0 ++ (sign 0 ++ sign 0))).answer ≡ answer 17 2 0
  pub second_next : batch_of (used 1) signed_full (header_2 ++ sign 0) ≡ record { answer = answer 17 0 0; counts = used 1; tables = signed_full }
  pub second_of_two : (taken_in_2 (declare 0 0 ++ (declare 1 0 ++ (sign 1 ++ (sign 0 ++ sign 1))))).answer ≡ answer 17 4 0
  pub second_after_read : (taken_in_2 (declare 0 0 ++ (declare 1 1 ++ (sign 0 ++ (event 1 0 1 1 ++ sign 0))))).answer ≡ answer 17 4 0
  -- 16 comes first, and 4 before 5, 8 and 17: a zero field, a file of version 1
  pub signs_unsound : (batch_of (used 1) unsound (header_2 ++ sign 9)).answer ≡ answer 16 0 0
  pub signs_field : map (λ x. (batch_of (used 1) signed_full (header_2 ++ set (sign x) 4 1)).answer) (0 ∷ 1 ∷ 9 ∷ []) ≡ replicate 3 (answer 4 0 0)
  pub signs_in_1 : map (λ x. (batch_of (used 1) signed_full (header ++ sign x)).answer) (0 ∷ 1 ∷ 9 ∷ []) ≡ replicate 3 (answer 4 0 0)
  -- a signature wants no row, and 13 and 9 are about events: full tables, 1,000,000 accepted, the greatest time
  pub signs_in_full : batch_of (used 1) full (header_2 ++ sign 0) ≡ record { answer = answer 0 1 0; counts = used 1; tables = signed_full }
  pub signs_at_most : batch_of (used most_accepted) (full_of most_accepted) (header_2 ++ sign 0)
      ≡ record { answer = answer 0 1 0; counts = used most_accepted; tables = signed_full_of most_accepted }
  pub signs_late : taken_in_2 (declare 0 0 ++ (declare 1 1 ++ (read_at 255 255 255 255 ++ sign 0)))
      ≡ record {
        answer = answer 0 4 0;
        counts = counts 2 2 1 1 4294967295;
        tables = tables (2 ∷ 0 ∷ 1 ∷ 1 ∷ replicate 12 7) (0 ∷ 0 ∷ 0 ∷ none ∷ 1 ∷ 0 ∷ 4294967295 ∷ none ∷ replicate 24 7)
            (0 ∷ 1 ∷ 1 ∷ 4294967295 ∷ 1 ∷ 4294967295 ∷ replicate 42 7);
      }
  -- "17, an event into a signed object": kinds 1 to 5 into it, by a subject and by an object, "directly after 8"
  pub into_signed : map (λ k. signed_refusal k 1 0 10) (1 ∷ 2 ∷ 3 ∷ 4 ∷ 5 ∷ []) ≡ 8 ∷ 17 ∷ 8 ∷ 8 ∷ 8 ∷ []
  pub from_object : map (λ k. signed_refusal k 3 0 10) (1 ∷ 2 ∷ 3 ∷ 4 ∷ 5 ∷ []) ≡ replicate 5 8
  -- out of it, to a subject and to an object: it "still counts as an object"
  pub out_of_signed : map (λ k. signed_refusal k 0 1 10) (1 ∷ 2 ∷ 3 ∷ 4 ∷ 5 ∷ []) ≡ 0 ∷ 8 ∷ 0 ∷ 8 ∷ 0 ∷ []
  pub signed_to_object : map (λ k. signed_refusal k 0 3 10) (1 ∷ 2 ∷ 3 ∷ 4 ∷ 5 ∷ []) ≡ replicate 5 8
  -- into another object, and among subjects
  pub into_another : map (λ k. signed_refusal k 1 3 10) (1 ∷ 2 ∷ 3 ∷ 4 ∷ 5 ∷ []) ≡ 8 ∷ 0 ∷ 8 ∷ 8 ∷ 8 ∷ []
  pub among_subjects : map (λ k. signed_refusal k 1 2 10) (1 ∷ 2 ∷ 3 ∷ 4 ∷ 5 ∷ []) ≡ 8 ∷ 8 ∷ 8 ∷ 0 ∷ 8 ∷ []
  -- writes into it from each entity, and by subject 1 into each: 5, 7, 8, 17
  pub write_sources : map (λ u. signed_refusal 2 u 0 10) (0 ∷ 1 ∷ 2 ∷ 3 ∷ 4 ∷ 5 ∷ []) ≡ 7 ∷ 17 ∷ 17 ∷ 8 ∷ 5 ∷ 5 ∷ []
  pub write_targets : map (λ v. signed_refusal 2 1 v 10) (0 ∷ 1 ∷ 2 ∷ 3 ∷ 4 ∷ 5 ∷ []) ≡ 17 ∷ 7 ∷ 8 ∷ 0 ∷ 5 ∷ 5 ∷ []
  -- a row of sort 2 past the counts is no signed object
  pub write_past : map (λ n. (batch_of one_used (past_used 1 n) (header ++ event 2 0 1 6)).answer) (0 ∷ 1 ∷ 2 ∷ []) ≡ replicate 3 (answer 5 0 0)
  -- 17 before 9
  pub write_times : map (signed_refusal 2 1 0) (0 ∷ 8 ∷ 9 ∷ 10 ∷ []) ≡ replicate 4 17
  -- in a file of version 1, too; a write that would widen a version, into a signed object from which nothing was read
  pub write_in_1 : map (λ v. (batch_of (versions_used 5) (room_sorted 2 0) (header ++ event 2 1 v 10)).answer.refusal) (0 ∷ 3 ∷ []) ≡ 17 ∷ 0 ∷ []
  pub write_not_read : map (λ n. (batch_of (versions_used 5) (room_sorted 0 n) (header_2 ++ event 2 1 3 10)).answer.refusal) (0 ∷ 2 ∷ []) ≡ 0 ∷ 17 ∷ []
  -- "directly after 8": two conditions hold at once
  pub r5_17 : Refuses (used 1) signed_full (event 2 9 0 6) Undeclared 0
  pub r7_17 : Refuses (used 1) signed_full (event 2 0 0 6) SourceIsTarget 0
  pub r8_17 : Refuses (used 1) signed_full (event 4 1 0 6) WrongSort 0
  pub r17_9 : Refuses (used 1) signed_full (event 2 1 0 4) Signed 0
  pub r17_13 : Refuses (used most_accepted) (signed_full_of most_accepted) (event 2 1 0 6) Signed 0
  pub r17_9_13 : Refuses (used most_accepted) (signed_full_of most_accepted) (event 2 1 0 4) Signed 0
  pub r17_12 : Refuses (used 1) signed_full (event 2 1 0 6) Signed 0
  pub r17_11 : Refuses (used 1) (tables signed_full.entities signed_full.versions (signed_full.edges ++ replicate 6 0)) (event 2 1 0 6) Signed 0
  -- a repeat, too: earlier, in the same tick, later, and at 1,000,000
  pub r17_repeat : map (λ t. (signed_then (event 2 1 2 t)).answer) (6 ∷ 7 ∷ 8 ∷ []) ≡ replicate 3 (answer 17 12 11)
  pub r17_13_repeat : Refuses (used most_accepted) signed_target (event 2 0 1 6) Signed 0
  -- what is refused leaves the counts and the tables
  pub write_left : batch_of (used 1) signed_full (header ++ event 2 1 0 6) ≡ record { answer = answer 17 0 0; counts = used 1; tables = signed_full }
  pub repeat_left : signed_then (event 2 1 2 8) ≡ record { answer = answer 17 12 11; counts = counts 4 5 4 7 7; tables = signed_tables }
  -- a read, a load and an execve out of the report, at 8: the stager's third version
  pub out_answers : map (λ k. (signed_then (event k 2 1 8)).answer) (1 ∷ 3 ∷ 5 ∷ []) ≡ answer 0 13 15 ∷ answer 0 13 15 ∷ answer 0 13 11 ∷ []
  pub out_counts : map (λ k. (signed_then (event k 2 1 8)).counts) (1 ∷ 3 ∷ 5 ∷ []) ≡ replicate 3 (counts 4 6 5 8 8)
  pub out_entities : (signed_then (event 1 2 1 8)).tables.entities ≡ 0 ∷ 0 ∷ 1 ∷ 5 ∷ 2 ∷ 2 ∷ 0 ∷ 3 ∷ replicate 8 7
  -- and again, at 9: two repeats and an edge
  pub again_answers : map (λ k. (signed_then (event 1 2 1 8 ++ event k 2 1 9)).answer) (1 ∷ 3 ∷ 5 ∷ [])
      ≡ answer 0 14 16 ∷ answer 0 14 16 ∷ answer 0 14 15 ∷ []
  pub again_counts : map (λ k. (signed_then (event 1 2 1 8 ++ event k 2 1 9)).counts) (1 ∷ 3 ∷ 5 ∷ [])
      ≡ counts 4 6 5 9 9 ∷ counts 4 6 5 9 9 ∷ counts 4 6 6 9 9 ∷ []
  pub again_edge : edge_at (signed_then (event 1 2 1 8 ++ event 1 2 1 9)).tables.edges 4 ≡ edge_row 2 5 1 8 2 9
  -- writes into the study and the montage; an object declared later
  pub others_answers : map (λ v. (signed_then (event 2 1 v 8)).answer) (0 ∷ 3 ∷ []) ≡ replicate 2 (answer 0 13 15)
  pub others_counts : map (λ v. (signed_then (event 2 1 v 8)).counts) (0 ∷ 3 ∷ []) ≡ replicate 2 (counts 4 6 5 8 8)
  pub declared_later : (signed_then (declare 4 0 ++ event 2 1 4 8)).counts ≡ counts 5 6 5 8 8
  -- 2.3, "how many edges it so tried for the events it took in": none for a signature, none for an event that is refused
  pub tried_signature : map (λ n. (taken_in_2 (take n read_then_signed)).answer) (48 ∷ 60 ∷ 72 ∷ []) ≡ answer 0 4 1 ∷ answer 0 5 1 ∷ answer 0 6 2 ∷ []
  pub tried_refused : map (λ n. (taken_in_2 (take n written_then_signed)).answer) (60 ∷ 72 ∷ []) ≡ answer 0 5 1 ∷ answer 17 5 1 ∷ []
