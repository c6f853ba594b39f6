-- Document 01, "Traces": the plain list beside a list of calls, and what the calls leave. The proof is in
-- proofs/CallCases.antt.
use Rattle.std.specs.Prelude.{ℕ, ◌≡◌, List, [], ◌∷◌, ◌++◌, map, length, set}
use Rattle.rows.specs.Rows.{entity_row, version_row, edge_row, entity_no, put_edge}
use Rattle.record.specs.declared.Event.{Event}
use Rattle.record.specs.declared.Record.{Record}
use Rattle.record.specs.declared.Record.TheVariants as records
use Rattle.rules.specs.Trail.{Tables, tables, capacity_of, counts, none}
use Rattle.rules.specs.History.{accepted, kept_events, since, intake_time}
use Rattle.rules.specs.PlainList.{worked, items_of, tried_over, added_by}
use Rattle.rules.specs.StandsFor.{stands_for, last_time}
use Rattle.rules.specs.Calls.{Call, batch, backward, forward, held_after, plain_after}
use Rattle.rules.specs.Worked.{header, file, room, batch as worked_batch}
use Rattle.rules.specs.Order.{declare, event}

-- the records of the worked file that are taken in with n edge rows, the last first
abbrev pub plain : ℕ → List Record
plain n = added_by (capacity_of (room n)) [] (file 1)

abbrev pub times_of : List Event → List ℕ
times_of es = map (λ e. e.time) es

-- what the worked file leaves, and the same with its first edge repeated at 8
abbrev pub lent : Tables
lent = (worked_batch 8).tables

abbrev pub lent_then : Tables
lent_then = tables lent.entities lent.versions (put_edge lent.edges 0 (edge_row 0 1 1 1 3 8))

-- the worked file, a backward trace, two reads of which the second is earlier, a forward trace: the last call stands first
abbrev pub reads : List Call
reads = batch lent (header ++ (event 1 0 1 8 ++ event 1 0 1 7)) ∷ backward lent 2 6 [] [] ∷ batch (room 8) (file 1) ∷ []

abbrev pub calls : List Call
calls = forward lent_then (1 ∷ []) 4 [] [] ∷ reads

-- two execves, and a read that repeats both
abbrev pub execves : List Record
execves = added_by (capacity_of (room 8)) [] (header ++ (declare 0 0 ++ (declare 1 1 ++ (event 5 0 1 1 ++ (event 5 0 1 2 ++ event 1 0 1 3)))))

abbrev pub stand_times : List Record → List ℕ → List (List ℕ)
stand_times rs ks = map (λ k. times_of (stands_for rs k)) ks

pub record CallCases : Type 0 where
  pub all_added : length (plain 8) ≡ 11
  -- "with the capacity lent": with three edge rows the event at 6 is refused
  pub added_to_refused : length (plain 3) ≡ 9
  pub none_added : map (added_by (capacity_of (room 8)) []) ([] ∷ (set header 0 0 ++ declare 0 1) ∷ (header ++ declare 1 1) ∷ []) ≡ [] ∷ [] ∷ [] ∷ []
  pub first_added : added_by (capacity_of (room 8)) [] (header ++ declare 0 1) ≡ records.Declaration (record { sort = 1; entity = entity_no 0 }) ∷ []
  -- "The accepted events .. and the kept events", the last first
  pub accepted_times : times_of (accepted (items_of (plain 8))) ≡ 7 ∷ 6 ∷ 5 ∷ 4 ∷ 3 ∷ 2 ∷ 1 ∷ []
  pub kept_times : times_of (kept_events (items_of (plain 8))) ≡ 6 ∷ 5 ∷ 2 ∷ 1 ∷ []
  -- "The latest at or before t is the last accepted of those with time ≤ t": of the stager at 0, 4 and 5, the events accepted after it,
  -- and its time; the event into the stager at 3 is not kept
  pub since_times : map (λ t. times_of (since 1 t (items_of (plain 8)))) (0 ∷ 4 ∷ 5 ∷ [])
      ≡ (7 ∷ 6 ∷ 5 ∷ 4 ∷ 3 ∷ 2 ∷ 1 ∷ []) ∷ (7 ∷ 6 ∷ 5 ∷ 4 ∷ 3 ∷ 2 ∷ []) ∷ (7 ∷ 6 ∷ []) ∷ []
  pub intake_times : map (λ t. intake_time 1 t (items_of (plain 8))) (0 ∷ 4 ∷ 5 ∷ []) ≡ 0 ∷ 1 ∷ 5 ∷ []
  -- of the report at 1, 5 and 6: events into the stager are no intakes of it
  pub report_since_times : map (λ t. times_of (since 2 t (items_of (plain 8)))) (1 ∷ 5 ∷ 6 ∷ [])
      ≡ (7 ∷ 6 ∷ 5 ∷ 4 ∷ 3 ∷ 2 ∷ 1 ∷ []) ∷ (7 ∷ 6 ∷ 5 ∷ 4 ∷ 3 ∷ []) ∷ (7 ∷ []) ∷ []
  pub report_intake_times : map (λ t. intake_time 2 t (items_of (plain 8))) (1 ∷ 5 ∷ 6 ∷ []) ≡ 0 ∷ 2 ∷ 6 ∷ []
  -- "the rows and counts that the records already in the plain list give when worked from none"
  pub worked_counts : (worked (plain 8)).counts ≡ counts 4 5 4 7 7
  pub worked_entities : map (worked (plain 8)).entity (0 ∷ 1 ∷ 2 ∷ 3 ∷ []) ≡ entity_row 0 0 ∷ entity_row 1 4 ∷ entity_row 0 2 ∷ entity_row 0 3 ∷ []
  pub worked_versions : map (worked (plain 8)).version (0 ∷ 1 ∷ 2 ∷ 3 ∷ 4 ∷ []) ≡ version_row 0 0 0 none ∷ version_row 1 0 1 none ∷ version_row 2 0 6 none ∷ version_row 3 0 0 none ∷ version_row 1 5 5 1 ∷ []
  pub worked_edges : map (worked (plain 8)).edge (0 ∷ 1 ∷ 2 ∷ 3 ∷ [])
      ≡ edge_row 0 1 1 1 2 3 ∷ edge_row 1 2 2 2 2 4 ∷ edge_row 3 4 1 5 2 7 ∷ edge_row 4 2 2 6 1 6 ∷ []
  -- document 02, 2.1: the events that each edge stands for, the last first; there is no edge 4
  pub stand_times_lem : stand_times (plain 8) (0 ∷ 1 ∷ 2 ∷ 3 ∷ 4 ∷ []) ≡ (3 ∷ 1 ∷ []) ∷ (4 ∷ 2 ∷ []) ∷ (7 ∷ 5 ∷ []) ∷ (6 ∷ []) ∷ [] ∷ []
  pub stand_for_newest : stand_times execves (0 ∷ 1 ∷ 2 ∷ []) ≡ (1 ∷ []) ∷ (3 ∷ 2 ∷ []) ∷ [] ∷ []
  pub last_times : map (λ k. last_time (stands_for (plain 8) k)) (0 ∷ 1 ∷ 2 ∷ 3 ∷ 4 ∷ []) ≡ 3 ∷ 4 ∷ 7 ∷ 6 ∷ 0 ∷ []
  -- document 02, 2.3: the edges tried for the records of the plain list
  pub tried_over_lem : map tried_over (plain 8 ∷ plain 3 ∷ execves ∷ plain_after calls ∷ []) ≡ 11 ∷ 6 ∷ 1 ∷ 15 ∷ []
  -- "A batch adds .. the records of its file that this document's rules and refusals take in ..; a trace adds nothing."
  pub calls_accepted : times_of (accepted (items_of (plain_after calls))) ≡ 8 ∷ 7 ∷ 6 ∷ 5 ∷ 4 ∷ 3 ∷ 2 ∷ 1 ∷ []
  pub calls_kept : times_of (kept_events (items_of (plain_after calls))) ≡ 6 ∷ 5 ∷ 2 ∷ 1 ∷ []
  pub calls_counts : (held_after calls).counts ≡ counts 4 5 4 8 8
  pub calls_stand : stand_times (plain_after calls) (0 ∷ 1 ∷ 2 ∷ 3 ∷ []) ≡ (8 ∷ 3 ∷ 1 ∷ []) ∷ (4 ∷ 2 ∷ []) ∷ (7 ∷ 5 ∷ []) ∷ (6 ∷ []) ∷ []
  pub reads_tables : (held_after reads).tables ≡ lent_then
  pub calls_tables : (held_after calls).tables ≡ lent_then
