-- Document 01, "Traces": times, buffers and entities at the bounds of a trace. The proof is in proofs/TraceCases.antt.
use Rattle.std.specs.Prelude.{ℕ, ◌≡◌, List, [], ◌∷◌, ◌++◌, map, replicate}
use Rattle.rows.specs.Rows.{entity_row, put_entity}
use Rattle.rules.specs.Trail.{Tables, tables, counts, none}
use Rattle.rules.specs.Batch.{Batched}
use Rattle.rules.specs.Start.{greatest_or}
use Rattle.rules.specs.Backward.{BackwardTrace, backward_of}
use Rattle.rules.specs.Forward.{ForwardTrace, forward_of}
use Rattle.rules.specs.Worked.{backward, forward, BackwardIs}
use Rattle.rules.specs.Order.{declare, event, used, full, unsound}
use Rattle.rules.specs.SoundCases.{entity_rows, edge_rows, six_versions, versions_used}
use Rattle.rules.specs.FileCases.{taken_in}
use Rattle.rules.specs.RecordCases.{three_then, forks, grown, grown_then_declared}

-- the traces of the trail of RecordCases, with buffers of w and m bytes: it has 7 versions and 4 entities
abbrev pub backward_in : ℕ → ℕ → ℕ → ℕ → BackwardTrace
backward_in w m v t = backward_of grown.counts grown.tables v t (replicate w 9) (replicate m 9)

abbrev pub forward_in : ℕ → ℕ → List ℕ → ℕ → ForwardTrace
forward_in w m us t = forward_of grown.counts grown.tables us t (replicate w 9) (replicate m 9)

abbrev pub backward_to : ℕ → List ℕ → List ℕ → BackwardTrace
backward_to n work marks = record { answer = record { refusal = 0; count = n }; work = work; marks = marks }

abbrev pub forward_to : ℕ → ℕ → List ℕ → List ℕ → ForwardTrace
forward_to n i work marks = record { answer = record { refusal = 0; count = n; intake = i }; work = work; marks = marks }

-- "A refused trace .. returns count, intake and length 0 and writes nothing."
abbrev pub backward_refused : ℕ → ℕ → ℕ → BackwardTrace
backward_refused r w m = record { answer = record { refusal = r; count = 0 }; work = replicate w 9; marks = replicate m 9 }

abbrev pub forward_refused : ℕ → ℕ → ℕ → ForwardTrace
forward_refused r w m = record { answer = record { refusal = r; count = 0; intake = 0 }; work = replicate w 9; marks = replicate m 9 }

abbrev pub intake_in : ℕ → ℕ → ℕ
intake_in u t = (forward_in 7 4 (u ∷ []) t).answer.intake

-- sound, but grown by no file: subject 1 writes 2 at 2, and reads 0 at 3 as the same version
abbrev pub widened_later : ℕ → BackwardTrace
widened_later t =
    backward_of (counts 3 3 2 2 3)
    (tables (0 ∷ 0 ∷ 1 ∷ 1 ∷ 0 ∷ 2 ∷ []) (0 ∷ 0 ∷ 0 ∷ none ∷ 1 ∷ 0 ∷ 3 ∷ none ∷ 2 ∷ 0 ∷ 2 ∷ none ∷ []) (1 ∷ 2 ∷ 2 ∷ 2 ∷ 1 ∷ 2 ∷ 0 ∷ 1 ∷ 1 ∷ 3 ∷ 1 ∷ 3 ∷ []))
    2 t (replicate 3 9) (replicate 3 9)

-- sound, but grown by no file: versions 3 and 5 of subject 1 have the same previous, and 3 is its latest
abbrev pub branched : Tables
branched = tables entity_rows (six_versions 1 6 6 1) edge_rows

-- the same with 5 as its latest, which no edge enters
abbrev pub not_entered : Tables
not_entered = tables (put_entity entity_rows 1 (entity_row 1 5)) (six_versions 1 6 6 1) edge_rows

abbrev pub branched_backward : ℕ → List ℕ
branched_backward t = (backward_of (versions_used 6) branched 1 t (replicate 6 9) (replicate 4 9)).work

abbrev pub branched_forward : ℕ → List ℕ
branched_forward t = (forward_of (versions_used 6) branched (1 ∷ []) t (replicate 6 9) (replicate 4 9)).work

-- sound, but grown by no file: three versions of one object, and no edge
abbrev pub three_versions : Tables
three_versions = tables (0 ∷ 2 ∷ []) (0 ∷ 0 ∷ 0 ∷ none ∷ 0 ∷ 3 ∷ 3 ∷ 0 ∷ 0 ∷ 6 ∷ 6 ∷ 1 ∷ []) []

abbrev pub three_backward : ℕ → List ℕ
three_backward t = (backward_of (counts 1 3 0 0 6) three_versions 0 t (replicate 3 9) (9 ∷ [])).work

abbrev pub three_forward : ℕ → List ℕ
three_forward t = (forward_of (counts 1 3 0 0 6) three_versions (0 ∷ []) t (replicate 3 9) (9 ∷ [])).work

abbrev pub three_marks : ℕ → List ℕ
three_marks t = (forward_of (counts 1 3 0 0 6) three_versions (0 ∷ []) t (replicate 3 9) (9 ∷ [])).marks

-- where there are more edges than versions
abbrev pub forks_forward : ℕ → ForwardTrace
forks_forward t = forward_of (three_then forks).counts (three_then forks).tables (2 ∷ []) t (replicate 3 9) (replicate 3 9)

-- a chain of four events from 0 to 4
abbrev pub chain : Batched
chain = taken_in (declare 0 0 ++ (declare 1 1 ++ (declare 2 0 ++ (declare 3 1 ++ (declare 4 0 ++ (event 1 0 1 1 ++ (event 2 1 2 2 ++ (event 1 2 3 3 ++ event 2 3 4 4))))))))

abbrev pub chain_forward : ℕ → ForwardTrace
chain_forward u = forward_of chain.counts chain.tables (u ∷ []) 0 (replicate 5 9) (replicate 5 9)

pub record TraceCases : Type 0 where
  -- buffers of exactly the count, and longer: "Bytes past the counts are untouched."
  pub backward_exact : backward_in 7 4 2 5 ≡ backward_to 4 (1 ∷ 1 ∷ 1 ∷ 1 ∷ 1 ∷ 1 ∷ 0 ∷ []) (1 ∷ 1 ∷ 1 ∷ 1 ∷ [])
  pub backward_longer : backward_in 9 6 2 5 ≡ backward_to 4 (1 ∷ 1 ∷ 1 ∷ 1 ∷ 1 ∷ 1 ∷ 0 ∷ 9 ∷ 9 ∷ []) (1 ∷ 1 ∷ 1 ∷ 1 ∷ 9 ∷ 9 ∷ [])
  pub forward_exact : forward_in 7 4 (3 ∷ []) 0 ≡ forward_to 3 0 (0 ∷ 0 ∷ 0 ∷ 1 ∷ 1 ∷ 1 ∷ 1 ∷ []) (0 ∷ 1 ∷ 1 ∷ 1 ∷ [])
  pub forward_longer : forward_in 9 6 (3 ∷ []) 0 ≡ forward_to 3 0 (0 ∷ 0 ∷ 0 ∷ 1 ∷ 1 ∷ 1 ∷ 1 ∷ 9 ∷ 9 ∷ []) (0 ∷ 1 ∷ 1 ∷ 1 ∷ 9 ∷ 9 ∷ [])
  -- "14. Mark or work buffer shorter than its count."
  pub backward_work_short : backward_in 6 4 2 5 ≡ backward_refused 14 6 4
  pub backward_marks_short : backward_in 7 3 2 5 ≡ backward_refused 14 7 3
  pub forward_work_short : forward_in 6 4 (2 ∷ []) 5 ≡ forward_refused 14 6 4
  pub forward_marks_short : forward_in 7 3 (2 ∷ []) 5 ≡ forward_refused 14 7 3
  -- "5. Entity not declared."
  pub backward_entity : backward_in 7 4 4 5 ≡ backward_refused 5 7 4
  pub forward_entity : forward_in 7 4 (4 ∷ []) 5 ≡ forward_refused 5 7 4
  -- "16. Tables not sound."
  pub backward_unsound : backward_of (used 1) unsound 1 5 (9 ∷ 9 ∷ []) (9 ∷ 9 ∷ []) ≡ backward_refused 16 2 2
  pub forward_unsound : forward_of (used 1) unsound (1 ∷ []) 5 (9 ∷ 9 ∷ []) (9 ∷ 9 ∷ []) ≡ forward_refused 16 2 2
  -- backward from subject 1, of which versions 1, 4 and 6 start at 0, 3 and 6, at each time
  pub backward_0 : backward_in 7 4 1 0 ≡ backward_to 1 (0 ∷ 1 ∷ 0 ∷ 0 ∷ 0 ∷ 0 ∷ 0 ∷ []) (0 ∷ 1 ∷ 0 ∷ 0 ∷ [])
  pub backward_1 : backward_in 7 4 1 1 ≡ backward_to 2 (1 ∷ 1 ∷ 0 ∷ 0 ∷ 0 ∷ 0 ∷ 0 ∷ []) (1 ∷ 1 ∷ 0 ∷ 0 ∷ [])
  pub backward_2 : backward_in 7 4 1 2 ≡ backward_to 2 (1 ∷ 1 ∷ 0 ∷ 0 ∷ 0 ∷ 0 ∷ 0 ∷ []) (1 ∷ 1 ∷ 0 ∷ 0 ∷ [])
  pub backward_3 : backward_in 7 4 1 3 ≡ backward_to 3 (1 ∷ 1 ∷ 1 ∷ 0 ∷ 1 ∷ 0 ∷ 0 ∷ []) (1 ∷ 1 ∷ 1 ∷ 0 ∷ [])
  pub backward_4 : backward_in 7 4 1 4 ≡ backward_to 4 (1 ∷ 1 ∷ 1 ∷ 1 ∷ 1 ∷ 0 ∷ 0 ∷ []) (1 ∷ 1 ∷ 1 ∷ 1 ∷ [])
  pub backward_5 : backward_in 7 4 1 5 ≡ backward_to 4 (1 ∷ 1 ∷ 1 ∷ 1 ∷ 1 ∷ 0 ∷ 0 ∷ []) (1 ∷ 1 ∷ 1 ∷ 1 ∷ [])
  pub backward_6 : backward_in 7 4 1 6 ≡ backward_to 4 (1 ∷ 1 ∷ 1 ∷ 1 ∷ 1 ∷ 0 ∷ 1 ∷ []) (1 ∷ 1 ∷ 1 ∷ 1 ∷ [])
  pub backward_last : backward_in 7 4 1 4294967295 ≡ backward_to 4 (1 ∷ 1 ∷ 1 ∷ 1 ∷ 1 ∷ 0 ∷ 1 ∷ []) (1 ∷ 1 ∷ 1 ∷ 1 ∷ [])
  -- from an entity whose version has a number above the entities'
  pub backward_declared_late : backward_of grown_then_declared.counts grown_then_declared.tables 4 6 (replicate 7 9) (replicate 5 9) ≡ backward_to 1 (0 ∷ 0 ∷ 0 ∷ 0 ∷ 0 ∷ 0 ∷ 1 ∷ []) (0 ∷ 0 ∷ 0 ∷ 0 ∷ 1 ∷ [])
  -- forward from subject 1
  pub forward_2 : forward_in 7 4 (1 ∷ []) 2 ≡ forward_to 2 1 (0 ∷ 1 ∷ 1 ∷ 0 ∷ 1 ∷ 1 ∷ 1 ∷ []) (0 ∷ 1 ∷ 1 ∷ 0 ∷ [])
  pub forward_3 : forward_in 7 4 (1 ∷ []) 3 ≡ forward_to 2 3 (0 ∷ 0 ∷ 0 ∷ 0 ∷ 1 ∷ 1 ∷ 1 ∷ []) (0 ∷ 1 ∷ 1 ∷ 0 ∷ [])
  pub forward_5 : forward_in 7 4 (1 ∷ []) 5 ≡ forward_to 2 4 (0 ∷ 0 ∷ 0 ∷ 0 ∷ 1 ∷ 1 ∷ 1 ∷ []) (0 ∷ 1 ∷ 1 ∷ 0 ∷ [])
  pub forward_6 : forward_in 7 4 (1 ∷ []) 6 ≡ forward_to 1 6 (0 ∷ 0 ∷ 0 ∷ 0 ∷ 0 ∷ 0 ∷ 1 ∷ []) (0 ∷ 1 ∷ 0 ∷ 0 ∷ [])
  -- "the greatest time ≤ t of an edge entering the start version, else that version's start"
  pub intake_0 : map (intake_in 0) (0 ∷ 6 ∷ []) ≡ 0 ∷ 0 ∷ []
  pub intake_1 : map (intake_in 1) (0 ∷ 1 ∷ 2 ∷ 3 ∷ 4 ∷ 5 ∷ 6 ∷ 7 ∷ []) ≡ 0 ∷ 1 ∷ 1 ∷ 3 ∷ 4 ∷ 4 ∷ 6 ∷ 6 ∷ []
  pub intake_2 : map (intake_in 2) (1 ∷ 2 ∷ 4 ∷ 5 ∷ []) ≡ 0 ∷ 2 ∷ 2 ∷ 5 ∷ []
  pub intake_newest : map (λ t. (forks_forward t).answer.intake) (0 ∷ 3 ∷ 4 ∷ []) ≡ 0 ∷ 3 ∷ 4 ∷ []
  pub intake_start : (forward_of (versions_used 6) not_entered (1 ∷ []) 9 (replicate 6 9) (replicate 4 9)).answer ≡ record { refusal = 0; count = 1; intake = 6 }
  pub intake_greatest : greatest_or 7 (3 ∷ 5 ∷ 4 ∷ []) ≡ 5
  -- by an edge's time, and not by its last time: the worked trail's edges at 1, 2 and 5 were repeated at 3, 4 and 7
  pub intake_of_repeated : map (λ t. (forward (1 ∷ []) t).answer.intake) (0 ∷ 1 ∷ 2 ∷ 3 ∷ 6 ∷ 7 ∷ []) ≡ 0 ∷ 1 ∷ 1 ∷ 1 ∷ 5 ∷ 5 ∷ []
  pub backward_repeated : BackwardIs (backward 2 2) 3 (1 ∷ 1 ∷ 1 ∷ 0 ∷ [])
  -- "from every other marked version, all entering edges", those later than t too
  pub later_edge : map (λ t. (widened_later t).work) (1 ∷ 2 ∷ []) ≡ (0 ∷ 0 ∷ 1 ∷ []) ∷ (1 ∷ 1 ∷ 1 ∷ []) ∷ []
  -- an edge row that is not in use is not followed
  pub unused_backward : backward_of (counts 2 2 0 0 5) full 1 9 (9 ∷ 9 ∷ []) (9 ∷ 9 ∷ []) ≡ backward_to 1 (0 ∷ 1 ∷ []) (0 ∷ 1 ∷ [])
  pub unused_forward : forward_of (counts 2 2 0 0 5) full (0 ∷ []) 9 (9 ∷ 9 ∷ []) (9 ∷ 9 ∷ []) ≡ forward_to 1 0 (1 ∷ 0 ∷ []) (1 ∷ 0 ∷ [])
  pub unused_intake : forward_of (counts 2 2 0 0 5) full (1 ∷ []) 9 (9 ∷ 9 ∷ []) (9 ∷ 9 ∷ []) ≡ forward_to 1 0 (0 ∷ 1 ∷ []) (0 ∷ 1 ∷ [])
  -- "on the chain from its latest through previous"
  pub chain_backward : map three_backward (0 ∷ 2 ∷ 3 ∷ 5 ∷ 6 ∷ []) ≡ (1 ∷ 0 ∷ 0 ∷ []) ∷ (1 ∷ 0 ∷ 0 ∷ []) ∷ (1 ∷ 1 ∷ 0 ∷ []) ∷ (1 ∷ 1 ∷ 0 ∷ []) ∷ (1 ∷ 1 ∷ 1 ∷ []) ∷ []
  pub chain_forward_lem : map three_forward (0 ∷ 2 ∷ 3 ∷ 5 ∷ 6 ∷ []) ≡ (1 ∷ 1 ∷ 1 ∷ []) ∷ (1 ∷ 1 ∷ 1 ∷ []) ∷ (0 ∷ 1 ∷ 1 ∷ []) ∷ (0 ∷ 1 ∷ 1 ∷ []) ∷ (0 ∷ 0 ∷ 1 ∷ []) ∷ []
  pub chain_marks : map three_marks (0 ∷ 6 ∷ []) ≡ (1 ∷ []) ∷ (1 ∷ []) ∷ []
  pub branched_backward_lem : map branched_backward (4 ∷ 9 ∷ []) ≡ (1 ∷ 1 ∷ 0 ∷ 0 ∷ 0 ∷ 0 ∷ []) ∷ (1 ∷ 1 ∷ 0 ∷ 1 ∷ 0 ∷ 0 ∷ []) ∷ []
  -- "going from a version to each one whose previous it is"
  pub branched_forward_lem : map branched_forward (4 ∷ 9 ∷ []) ≡ (1 ∷ 1 ∷ 1 ∷ 1 ∷ 0 ∷ 1 ∷ []) ∷ (0 ∷ 0 ∷ 1 ∷ 1 ∷ 0 ∷ 0 ∷ []) ∷ []
  -- as long a chain as there are versions
  pub long_chain : map (λ u. (chain_forward u).answer.count) (0 ∷ 1 ∷ 2 ∷ 3 ∷ 4 ∷ []) ≡ 5 ∷ 4 ∷ 3 ∷ 2 ∷ 1 ∷ []
