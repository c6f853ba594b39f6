-- Document 01, "One record": which events repeat, which widen a version and which make one, with every number of the tables
-- that they leave. The proof is in proofs/RecordCases.antt.
use Rattle.std.specs.Prelude.{ℕ, ◌≡◌, List, [], ◌∷◌, ◌++◌, map, take, replicate, Ok, Err, Some}
use Rattle.refusals.specs.declared.Refusal.TheVariants.{TooEarly}
use Rattle.rows.specs.declared.Counts.{Counts}
use Rattle.rows.specs.Rows.{entity_row, version_row, edge_row, entity_no, entity_at, version_at, edge_at, put_edge}
use Rattle.record.specs.declared.Kind.TheVariants.{Read}
use Rattle.record.specs.declared.Event.{Event}
use Rattle.record.specs.declared.Record.TheVariants as records
use Rattle.rules.specs.Trail.{Tables, Trail, tables, trail_of, counts, fresh_counts, none}
use Rattle.rules.specs.Decide.{edge_no, repeat_of}
use Rattle.rules.specs.Batch.{Batched, results, take_in, batch_of}
use Rattle.rules.specs.Worked.{header, declarations, file, room, answer}
use Rattle.rules.specs.Order.{declare, event, used, full}
use Rattle.rules.specs.SoundCases.{entity_rows, version_rows, edge_rows, versions_used}
use Rattle.rules.specs.FileCases.{read_at, taken_in}
use Rattle.rules.specs.RefusalCases.{longer}

-- two edges go from version 0 to version 1; the older has the later last time
abbrev pub two_edge_rows : List ℕ
two_edge_rows = 0 ∷ 1 ∷ 5 ∷ 1 ∷ 1 ∷ 5 ∷ 0 ∷ 1 ∷ 5 ∷ 2 ∷ 1 ∷ 2 ∷ []

abbrev pub two_edges : Trail
two_edges = trail_of (counts 2 2 2 2 5) (tables full.entities full.versions two_edge_rows)

-- sound, but grown by no file: an edge to subject 1's older version is newer than one to its latest
abbrev pub older_newer_rows : Tables
older_newer_rows = tables entity_rows version_rows (put_edge edge_rows 4 (edge_row 0 1 5 9 1 9))

abbrev pub older_newer : Trail
older_newer = trail_of (versions_used 5) older_newer_rows

abbrev pub read : ℕ → ℕ → ℕ → Event
read u v t = record { kind = Read; source = entity_no u; target = entity_no v; time = t }

-- the worked file and one event more
abbrev pub worked_then : List ℕ → Counts
worked_then e = (batch_of fresh_counts (room 8) (file 1 ++ e)).counts

-- object 0 and subject 1, and events between them: the edges that they leave
abbrev pub edges_of_two : List ℕ → List ℕ
edges_of_two es = (taken_in (declare 0 0 ++ (declare 1 1 ++ es))).tables.edges

-- an event of kind k from object 0 to subject 1, then one of kind l: how many edges are kept
abbrev pub kept_of_two : ℕ → ℕ → ℕ
kept_of_two k l = (taken_in (declare 0 0 ++ (declare 1 1 ++ (event k 0 1 1 ++ event l 0 1 2)))).counts.edges

-- events among object 0 and subjects 1 and 2
abbrev pub three_then : List ℕ → Batched
three_then es = taken_in (declare 0 0 ++ (declare 1 1 ++ (declare 2 1 ++ es)))

-- 1 forks 2 three times, and 2 reads 0: more edges than versions
abbrev pub forks : List ℕ
forks = event 4 1 2 1 ++ (event 4 1 2 2 ++ (event 4 1 2 3 ++ event 1 0 2 4))

-- an event where the edge row of `full` is not in use
abbrev pub after_unused : List ℕ → Counts
after_unused e = (batch_of (counts 2 2 0 0 5) full (header ++ e)).counts

-- the worked trail's entities. 1 reads 0 and writes 2; it reads 2, which makes its second version, and 3, which widens
-- that; it writes 2, which makes the second of 2; an execve makes its third
abbrev pub grown_events : List ℕ
grown_events = event 1 0 1 1 ++ (event 2 1 2 2 ++ (event 1 2 1 3 ++ (event 1 3 1 4 ++ (event 2 1 2 5 ++ event 5 0 1 6))))

unfoldable pub grown : Batched
grown = taken_in (declarations ++ grown_events)

-- subject 4 is declared in place of the last event
unfoldable pub grown_then_declared : Batched
grown_then_declared = taken_in (declarations ++ (take 60 grown_events ++ declare 4 1))

pub record RecordCases : Type 0 where
  -- "A declaration adds the entity and its first version (start 0, end 0, no previous)."
  pub declared_counts : (taken_in (declare 0 1)).counts ≡ counts 1 1 0 0 0
  pub declared_tables : (taken_in (declare 0 1)).tables ≡ tables (1 ∷ 0 ∷ replicate 14 7) (0 ∷ 0 ∷ 0 ∷ none ∷ replicate 28 7) (replicate 48 7)
  -- "for kinds 1, 2, 3, if an edge of any kind goes from the latest version of u to some version of v": to its latest ..
  pub after_read : map (kept_of_two 1) (1 ∷ 3 ∷ 5 ∷ []) ≡ 1 ∷ 1 ∷ 2 ∷ []
  pub after_load : map (kept_of_two 3) (1 ∷ 3 ∷ 5 ∷ []) ≡ 1 ∷ 1 ∷ 2 ∷ []
  pub after_execve : map (kept_of_two 5) (1 ∷ 3 ∷ 5 ∷ []) ≡ 1 ∷ 1 ∷ 2 ∷ []
  -- where two edges do, the newest is found
  pub newest_repeated : repeat_of two_edges (read 0 1 3) ≡ Some (edge_no 1)
  pub newest_into_older : repeat_of older_newer (read 0 1 10) ≡ Some (edge_no 4)
  pub two_writes : (taken_in (declare 0 1 ++ (declare 1 0 ++ (event 2 0 1 1 ++ event 2 0 1 2)))).counts ≡ counts 2 2 1 2 2
  pub two_forks : (taken_in (declare 0 1 ++ (declare 1 1 ++ (event 4 0 1 1 ++ event 4 0 1 2)))).counts ≡ counts 2 2 2 2 2
  pub two_targets : map (λ es. (three_then es).counts.edges) ((event 1 0 1 1 ++ event 1 0 2 2) ∷ (event 1 0 2 1 ++ event 1 0 1 2) ∷ []) ≡ 2 ∷ 2 ∷ []
  -- .. and to an older one: the stager's first version was read into, and is no longer its latest
  pub into_older_read : worked_then (event 1 0 1 8) ≡ counts 4 5 4 8 8
  pub into_older_load : worked_then (event 3 0 1 8) ≡ counts 4 5 4 8 8
  pub into_older_execve : worked_then (event 5 0 1 8) ≡ counts 4 6 5 8 8
  -- 2. and 3. "If v's latest version has no outgoing edge": an older one's edges do not count
  pub grown_answer : grown.answer ≡ answer 0 10 10
  pub grown_counts : grown.counts ≡ counts 4 7 6 6 6
  pub grown_entities : grown.tables.entities ≡ 0 ∷ 0 ∷ 1 ∷ 6 ∷ 0 ∷ 5 ∷ 0 ∷ 3 ∷ replicate 8 7
  pub grown_versions : grown.tables.versions ≡
      0 ∷ 0 ∷ 0 ∷ none
      ∷ 1 ∷ 0 ∷ 1 ∷ none
      ∷ 2 ∷ 0 ∷ 2 ∷ none
      ∷ 3 ∷ 0 ∷ 0 ∷ none
      ∷ 1 ∷ 3 ∷ 4 ∷ 1
      ∷ 2 ∷ 5 ∷ 5 ∷ 2
      ∷ 1 ∷ 6 ∷ 6 ∷ 4
      ∷ replicate 4 7
  pub grown_edges : grown.tables.edges ≡
      0 ∷ 1 ∷ 1 ∷ 1 ∷ 1 ∷ 1
      ∷ 1 ∷ 2 ∷ 2 ∷ 2 ∷ 1 ∷ 2
      ∷ 2 ∷ 4 ∷ 1 ∷ 3 ∷ 1 ∷ 3
      ∷ 3 ∷ 4 ∷ 1 ∷ 4 ∷ 1 ∷ 4
      ∷ 4 ∷ 5 ∷ 2 ∷ 5 ∷ 1 ∷ 5
      ∷ 0 ∷ 6 ∷ 5 ∷ 6 ∷ 1 ∷ 6
      ∷ replicate 12 7
  -- document 02, 2.1: "A repeat adds one to the newest edge that makes it a repeat and sets that last time": a read after two execves
  pub newest_counted : edges_of_two (event 5 0 1 1 ++ (event 5 0 1 2 ++ event 1 0 1 3)) ≡
      0 ∷ 1 ∷ 5 ∷ 1 ∷ 1 ∷ 1
      ∷ 0 ∷ 1 ∷ 5 ∷ 2 ∷ 2 ∷ 3
      ∷ replicate 36 7
  -- reads and loads, again and again; a row keeps its kind and time, and an execve's row counts what repeats it
  pub counted_again : edges_of_two (event 1 0 1 1 ++ (event 1 0 1 2 ++ (event 3 0 1 3 ++ event 1 0 1 9))) ≡ 0 ∷ 1 ∷ 1 ∷ 1 ∷ 4 ∷ 9 ∷ replicate 42 7
  pub counted_by_turns : edges_of_two (event 3 0 1 1 ++ (event 1 0 1 2 ++ (event 5 0 1 3 ++ event 3 0 1 4))) ≡
      0 ∷ 1 ∷ 3 ∷ 1 ∷ 2 ∷ 2
      ∷ 0 ∷ 1 ∷ 5 ∷ 3 ∷ 2 ∷ 4
      ∷ replicate 36 7
  pub counted_writes : (taken_in (declare 0 1 ++ (declare 1 0 ++ (event 2 0 1 1 ++ event 2 0 1 2)))).tables.edges ≡ 0 ∷ 1 ∷ 2 ∷ 1 ∷ 2 ∷ 2 ∷ replicate 42 7
  -- times of four bytes
  pub kept_late : edges_of_two (read_at 255 255 255 255) ≡ 0 ∷ 1 ∷ 1 ∷ 4294967295 ∷ 1 ∷ 4294967295 ∷ replicate 42 7
  pub counted_late : edges_of_two (event 1 0 1 1 ++ read_at 255 255 255 255) ≡ 0 ∷ 1 ∷ 1 ∷ 1 ∷ 2 ∷ 4294967295 ∷ replicate 42 7
  -- a part row at the table's end stays
  pub counted_in_full : (batch_of (used 1) (tables full.entities full.versions (full.edges ++ replicate 5 7)) (header ++ event 1 0 1 6)).tables.edges
      ≡ 0 ∷ 1 ∷ 1 ∷ 5 ∷ 2 ∷ 6 ∷ replicate 5 7
  -- to an older version of the target: the edge at 1 of the worked trail
  pub older_counted : map (edge_at (batch_of fresh_counts (room 8) (file 1 ++ event 1 0 1 8)).tables.edges) (0 ∷ 1 ∷ 2 ∷ 3 ∷ [])
      ≡ edge_row 0 1 1 1 3 8 ∷ edge_row 1 2 2 2 2 4 ∷ edge_row 3 4 1 5 2 7 ∷ edge_row 4 2 2 6 1 6 ∷ []
  -- every edge in use is searched, and no other
  pub newest_repeats : (three_then (forks ++ event 1 0 2 5)).counts ≡ counts 3 3 4 5 5
  pub newest_leaves : (three_then (forks ++ event 2 2 0 5)).counts ≡ counts 3 4 5 5 5
  pub unused_repeats : after_unused (event 1 0 1 6) ≡ counts 2 2 1 1 6
  pub unused_leaves : after_unused (event 2 1 0 6) ≡ counts 2 2 1 1 6
  -- an entity declared after events: its first version's number is not its own
  pub declared_after : (batch_of (versions_used 5) (longer 2 4 6) (header ++ declare 4 1)).counts ≡ counts 5 6 5 7 9
  pub late_answer : grown_then_declared.answer ≡ answer 0 10 10
  pub late_counts : grown_then_declared.counts ≡ counts 5 7 5 5 5
  pub late_entities : map (entity_at grown_then_declared.tables.entities) (0 ∷ 1 ∷ 2 ∷ 3 ∷ 4 ∷ []) ≡ entity_row 0 0 ∷ entity_row 1 4 ∷ entity_row 0 5 ∷ entity_row 0 3 ∷ entity_row 1 6 ∷ []
  pub late_version : version_at grown_then_declared.tables.versions 6 ≡ version_row 4 0 0 none
  -- a refused record leaves nothing of itself: reads that are earlier, one that would be kept and one that would repeat
  pub refused_record : take_in (versions_used 5) (longer 2 4 6) 0 (records.Event (read 3 1 8) ∷ []) (Ok tt)
      ≡ results (Err TooEarly) 0 (versions_used 5) (longer 2 4 6)
  pub refused_repeat : take_in (versions_used 5) (longer 2 4 6) 0 (records.Event (read 0 1 8) ∷ []) (Ok tt)
      ≡ results (Err TooEarly) 0 (versions_used 5) (longer 2 4 6)
