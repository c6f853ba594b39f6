-- Document 02, 2.5: two events in one tick. What they make of the tables, traces before, in and after the tick, and sound tables with
-- equal times and starts. The proof is in proofs/TickCases.antt.
use Rattle.std.specs.Prelude.{ℕ, ◌≡◌, List, [], ◌∷◌, ◌++◌, map, replicate}
use Rattle.record.specs.declared.Event.{Event}
use Rattle.record.specs.declared.Record.{Record}
use Rattle.rules.specs.declared.BatchAnswer.{BatchAnswer}
use Rattle.rules.specs.Trail.{Tables, tables, capacity_of, counts, none}
use Rattle.rules.specs.Batch.{Batched, batch_of}
use Rattle.rules.specs.History.{since, intake_time}
use Rattle.rules.specs.PlainList.{items_of, added_by}
use Rattle.rules.specs.Backward.{BackwardTrace, backward_of}
use Rattle.rules.specs.Forward.{ForwardTrace, forward_of}
use Rattle.rules.specs.KeptLog.{kept_log_of}
use Rattle.rules.specs.Worked.{header, declarations, room, answer}
use Rattle.rules.specs.Order.{event, used, full}
use Rattle.rules.specs.FileCases.{taken_in}
use Rattle.rules.specs.TraceCases.{backward_to, forward_to}
use Rattle.rules.specs.LogCases.{log_of}

-- the worked trail's entities. In one tick, at 1, the stager reads the study and writes the report; the other way round; it reads the study
-- and writes it back
abbrev pub read_write : List ℕ
read_write = declarations ++ (event 1 0 1 1 ++ event 2 1 2 1)

abbrev pub write_read : List ℕ
write_read = declarations ++ (event 2 1 2 1 ++ event 1 0 1 1)

abbrev pub read_back : List ℕ
read_back = declarations ++ (event 1 0 1 1 ++ event 2 1 0 1)

-- it reads the study, writes the report and reads the study again
abbrev pub read_repeat : List ℕ
read_repeat = read_write ++ event 1 0 1 1

-- it reads the study and writes it back twice, all in one tick
abbrev pub turns : List ℕ
turns = declarations ++ (event 1 0 1 1 ++ (event 2 1 0 1 ++ (event 1 0 1 1 ++ event 2 1 0 1)))

-- the records taken in of a file, the last first
abbrev pub plain_of : List ℕ → List Record
plain_of bytes = added_by (capacity_of (room 8)) [] (header ++ bytes)

-- traces with buffers of just the counts
abbrev pub backward_at : Batched → ℕ → ℕ → BackwardTrace
backward_at b v t = backward_of b.counts b.tables v t (replicate b.counts.versions 9) (replicate b.counts.entities 9)

abbrev pub forward_at : Batched → ℕ → ℕ → ForwardTrace
forward_at b u t = forward_of b.counts b.tables (u ∷ []) t (replicate b.counts.versions 9) (replicate b.counts.entities 9)

-- object 0 was read by subject 1 at 5: the same read once more, at t
abbrev pub read_again : ℕ → Batched
read_again t = batch_of (used 1) full (header ++ event 1 0 1 t)

-- the answer to a second file
abbrev pub next_answer : List ℕ → List ℕ → BatchAnswer
next_answer first bytes = (batch_of (taken_in first).counts (taken_in first).tables (header ++ bytes)).answer

-- the sources of events
abbrev pub sources_of : List Event → List ℕ
sources_of es = map (λ e. e.source.0) es

-- sound, but grown by no file: three versions of one object, two of which start at 3, and no edge
abbrev pub equal_starts : Tables
equal_starts = tables (0 ∷ 2 ∷ []) (0 ∷ 0 ∷ 0 ∷ none ∷ 0 ∷ 3 ∷ 3 ∷ 0 ∷ 0 ∷ 3 ∷ 3 ∷ 1 ∷ []) []

abbrev pub equal_backward : ℕ → BackwardTrace
equal_backward t = backward_of (counts 1 3 0 0 3) equal_starts 0 t (replicate 3 9) (9 ∷ [])

abbrev pub equal_forward : ℕ → ForwardTrace
equal_forward t = forward_of (counts 1 3 0 0 3) equal_starts (0 ∷ []) t (replicate 3 9) (9 ∷ [])

pub record TickCases : Type 0 where
  -- "Equal to the last time is now accepted; earlier, or time 0, still gives 9": in the next file, a read that repeats, a read that is kept, and
  -- the first event of all
  pub again_answers : map (λ t. (read_again t).answer) (0 ∷ 4 ∷ 5 ∷ 6 ∷ []) ≡ answer 9 0 0 ∷ answer 9 0 0 ∷ answer 0 1 1 ∷ answer 0 1 1 ∷ []
  pub again_refused : map read_again (0 ∷ 4 ∷ []) ≡ replicate 2 (record { answer = answer 9 0 0; counts = used 1; tables = full })
  pub next_kept : map (λ t. next_answer read_write (event 1 3 1 t)) (0 ∷ 1 ∷ 2 ∷ []) ≡ answer 9 0 0 ∷ answer 0 1 2 ∷ answer 0 1 2 ∷ []
  pub next_first : map (λ t. next_answer declarations (event 1 0 1 t)) (0 ∷ 1 ∷ []) ≡ answer 9 0 0 ∷ answer 0 1 0 ∷ []
  pub again_counted : read_again 5
      ≡ record { answer = answer 0 1 1; counts = counts 2 2 1 2 5; tables = tables full.entities full.versions (0 ∷ 1 ∷ 1 ∷ 5 ∷ 2 ∷ 5 ∷ []) }
  -- in the same file: a pair; after it one at 0, in the tick and later; after an event at 2 an earlier one too
  pub pair : taken_in read_write
      ≡ record {
        answer = answer 0 6 1;
        counts = counts 4 4 2 2 1;
        tables = tables (0 ∷ 0 ∷ 1 ∷ 1 ∷ 0 ∷ 2 ∷ 0 ∷ 3 ∷ replicate 8 7)
            (0 ∷ 0 ∷ 0 ∷ none
            ∷ 1 ∷ 0 ∷ 1 ∷ none
            ∷ 2 ∷ 0 ∷ 1 ∷ none
            ∷ 3 ∷ 0 ∷ 0 ∷ none
            ∷ replicate 16 7)
            (0 ∷ 1 ∷ 1 ∷ 1 ∷ 1 ∷ 1
            ∷ 1 ∷ 2 ∷ 2 ∷ 1 ∷ 1 ∷ 1
            ∷ replicate 36 7);
      }
  pub after_pair : map (λ t. (taken_in (read_write ++ event 1 3 1 t)).answer) (0 ∷ 1 ∷ 2 ∷ []) ≡ answer 9 6 1 ∷ answer 0 7 3 ∷ answer 0 7 3 ∷ []
  pub after_two : map (λ t. (taken_in (read_write ++ (event 1 3 1 2 ++ event 1 0 1 t))).answer) (0 ∷ 1 ∷ 2 ∷ 3 ∷ []) ≡ answer 9 7 3 ∷ answer 9 7 3 ∷ answer 0 8 6 ∷ answer 0 8 6 ∷ []
  -- "The order of acceptance decides what is causal": before, in and after the tick, the report back and the study forward
  pub pair_backward : map (λ t. (backward_at (taken_in read_write) 2 t).marks) (0 ∷ 1 ∷ 2 ∷ []) ≡ (0 ∷ 0 ∷ 1 ∷ 0 ∷ []) ∷ (1 ∷ 1 ∷ 1 ∷ 0 ∷ []) ∷ (1 ∷ 1 ∷ 1 ∷ 0 ∷ []) ∷ []
  pub pair_forward : map (λ t. (forward_at (taken_in read_write) 0 t).marks) (0 ∷ 1 ∷ 2 ∷ []) ≡ replicate 3 (1 ∷ 1 ∷ 1 ∷ 0 ∷ [])
  -- ", so an event never follows one accepted after it": the stager's new version, row 4, starts at 1
  pub turned : taken_in write_read
      ≡ record {
        answer = answer 0 6 1;
        counts = counts 4 5 2 2 1;
        tables = tables (0 ∷ 0 ∷ 1 ∷ 4 ∷ 0 ∷ 2 ∷ 0 ∷ 3 ∷ replicate 8 7)
            (0 ∷ 0 ∷ 0 ∷ none
            ∷ 1 ∷ 0 ∷ 0 ∷ none
            ∷ 2 ∷ 0 ∷ 1 ∷ none
            ∷ 3 ∷ 0 ∷ 0 ∷ none
            ∷ 1 ∷ 1 ∷ 1 ∷ 1
            ∷ replicate 12 7)
            (1 ∷ 2 ∷ 2 ∷ 1 ∷ 1 ∷ 1
            ∷ 0 ∷ 4 ∷ 1 ∷ 1 ∷ 1 ∷ 1
            ∷ replicate 36 7);
      }
  pub turned_backward : map (λ t. (backward_at (taken_in write_read) 2 t).marks) (0 ∷ 1 ∷ 2 ∷ []) ≡ (0 ∷ 0 ∷ 1 ∷ 0 ∷ []) ∷ (0 ∷ 1 ∷ 1 ∷ 0 ∷ []) ∷ (0 ∷ 1 ∷ 1 ∷ 0 ∷ []) ∷ []
  pub turned_forward : map (λ t. (forward_at (taken_in write_read) 0 t).marks) (0 ∷ 1 ∷ 2 ∷ []) ≡ replicate 3 (1 ∷ 1 ∷ 0 ∷ 0 ∷ [])
  -- "Forward starts just after the last kept intake with time ≤ t": of the stager, before, in and after the tick
  pub turned_stager : map (forward_at (taken_in write_read) 1) (0 ∷ 1 ∷ 2 ∷ [])
      ≡ forward_to 2 0 (0 ∷ 1 ∷ 1 ∷ 0 ∷ 1 ∷ []) (0 ∷ 1 ∷ 1 ∷ 0 ∷ []) ∷ replicate 2 (forward_to 1 1 (0 ∷ 0 ∷ 0 ∷ 0 ∷ 1 ∷ []) (0 ∷ 1 ∷ 0 ∷ 0 ∷ []))
  -- "never less than the full answer over events later than t": at 1, the read at 1 is not counted, and the study was written after it
  pub back_forward : map (forward_at (taken_in read_back) 0) (0 ∷ 1 ∷ 2 ∷ [])
      ≡ forward_to 2 0 (1 ∷ 1 ∷ 0 ∷ 0 ∷ 1 ∷ []) (1 ∷ 1 ∷ 0 ∷ 0 ∷ []) ∷ replicate 2 (forward_to 1 1 (0 ∷ 0 ∷ 0 ∷ 0 ∷ 1 ∷ []) (1 ∷ 0 ∷ 0 ∷ 0 ∷ []))
  pub back_since : map (λ t. sources_of (since 0 t (items_of (plain_of read_back)))) (0 ∷ 1 ∷ []) ≡ (1 ∷ 0 ∷ []) ∷ [] ∷ []
  -- "Edge times and starts along previous need only not fall": versions 4 and 6 of the study start at 1
  pub turns_taken : taken_in turns
      ≡ record {
        answer = answer 0 8 6;
        counts = counts 4 7 4 4 1;
        tables = tables (0 ∷ 6 ∷ 1 ∷ 5 ∷ 0 ∷ 2 ∷ 0 ∷ 3 ∷ replicate 8 7)
            (0 ∷ 0 ∷ 0 ∷ none
            ∷ 1 ∷ 0 ∷ 1 ∷ none
            ∷ 2 ∷ 0 ∷ 0 ∷ none
            ∷ 3 ∷ 0 ∷ 0 ∷ none
            ∷ 0 ∷ 1 ∷ 1 ∷ 0
            ∷ 1 ∷ 1 ∷ 1 ∷ 1
            ∷ 0 ∷ 1 ∷ 1 ∷ 4
            ∷ replicate 4 7)
            (0 ∷ 1 ∷ 1 ∷ 1 ∷ 1 ∷ 1
            ∷ 1 ∷ 4 ∷ 2 ∷ 1 ∷ 1 ∷ 1
            ∷ 4 ∷ 5 ∷ 1 ∷ 1 ∷ 1 ∷ 1
            ∷ 5 ∷ 6 ∷ 2 ∷ 1 ∷ 1 ∷ 1
            ∷ replicate 24 7);
      }
  -- the start version is the last one of the tick
  pub turns_backward : map (backward_at (taken_in turns) 0) (0 ∷ 1 ∷ [])
      ≡ backward_to 1 (1 ∷ 0 ∷ 0 ∷ 0 ∷ 0 ∷ 0 ∷ 0 ∷ []) (1 ∷ 0 ∷ 0 ∷ 0 ∷ []) ∷ backward_to 2 (1 ∷ 1 ∷ 0 ∷ 0 ∷ 1 ∷ 1 ∷ 1 ∷ []) (1 ∷ 1 ∷ 0 ∷ 0 ∷ []) ∷ []
  pub turns_study : map (forward_at (taken_in turns) 0) (0 ∷ 1 ∷ [])
      ≡ forward_to 2 0 (1 ∷ 1 ∷ 0 ∷ 0 ∷ 1 ∷ 1 ∷ 1 ∷ []) (1 ∷ 1 ∷ 0 ∷ 0 ∷ []) ∷ forward_to 1 1 (0 ∷ 0 ∷ 0 ∷ 0 ∷ 0 ∷ 0 ∷ 1 ∷ []) (1 ∷ 0 ∷ 0 ∷ 0 ∷ []) ∷ []
  pub turns_stager : forward_at (taken_in turns) 1 1 ≡ forward_to 2 1 (0 ∷ 0 ∷ 0 ∷ 0 ∷ 0 ∷ 1 ∷ 1 ∷ []) (1 ∷ 1 ∷ 0 ∷ 0 ∷ [])
  pub turns_since : map (λ u. sources_of (since u 1 (items_of (plain_of turns)))) (0 ∷ 1 ∷ 2 ∷ []) ≡ [] ∷ (1 ∷ []) ∷ (1 ∷ 0 ∷ 1 ∷ 0 ∷ []) ∷ []
  pub turns_intakes : map (λ u. intake_time u 1 (items_of (plain_of turns))) (0 ∷ 1 ∷ 2 ∷ []) ≡ 1 ∷ 1 ∷ 0 ∷ []
  -- the kept log has the events of the tick in their order
  pub turns_log : kept_log_of (taken_in turns).counts (taken_in turns).tables (replicate 104 9) ≡ log_of (header ++ turns) 104
  -- a repeat in the tick: one edge for both, no intake of the stager, and no event of the log
  pub repeat_counts : (taken_in read_repeat).counts ≡ counts 4 4 2 3 1
  pub repeat_edges : (taken_in read_repeat).tables.edges ≡ 0 ∷ 1 ∷ 1 ∷ 1 ∷ 2 ∷ 1 ∷ 1 ∷ 2 ∷ 2 ∷ 1 ∷ 1 ∷ 1 ∷ replicate 36 7
  pub repeat_since : sources_of (since 1 1 (items_of (plain_of read_repeat))) ≡ 0 ∷ 1 ∷ []
  pub repeat_log : kept_log_of (taken_in read_repeat).counts (taken_in read_repeat).tables (replicate 80 9) ≡ log_of (header ++ read_write) 80
  -- the same write before and after the read: by the second one the study stands behind the report
  pub twice_backward : map (λ t. (backward_at (taken_in (write_read ++ event 2 1 2 1)) 2 t).marks) (0 ∷ 1 ∷ []) ≡ (0 ∷ 0 ∷ 1 ∷ 0 ∷ []) ∷ (1 ∷ 1 ∷ 1 ∷ 0 ∷ []) ∷ []
  -- two reads into one version
  pub two_reads : map (λ t. (backward_at (taken_in (declarations ++ (event 1 0 1 1 ++ event 1 3 1 1))) 1 t).marks) (0 ∷ 1 ∷ []) ≡ (0 ∷ 1 ∷ 0 ∷ 0 ∷ []) ∷ (1 ∷ 1 ∷ 0 ∷ 1 ∷ []) ∷ []
  -- tables that nobody grew: "The start version .. is its highest-numbered version on the chain .. with start ≤ t"
  pub equal_backward_lem : map equal_backward (2 ∷ 3 ∷ []) ≡ backward_to 1 (1 ∷ 0 ∷ 0 ∷ []) (1 ∷ []) ∷ backward_to 1 (1 ∷ 1 ∷ 1 ∷ []) (1 ∷ []) ∷ []
  pub equal_forward_lem : map equal_forward (2 ∷ 3 ∷ []) ≡ forward_to 1 0 (1 ∷ 1 ∷ 1 ∷ []) (1 ∷ []) ∷ forward_to 1 3 (0 ∷ 0 ∷ 1 ∷ []) (1 ∷ []) ∷ []
