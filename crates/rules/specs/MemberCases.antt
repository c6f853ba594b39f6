-- Document 02, 2.2: forward traces of lists of entities. The proof is in proofs/MemberCases.antt.
use Rattle.std.specs.Prelude.{ℕ, ◌≡◌, List, [], ◌∷◌, ◌++◌, map, replicate}
use Rattle.record.specs.declared.Record.{Record}
use Rattle.rules.specs.Trail.{tables, capacity_of, counts, fresh_counts, none}
use Rattle.rules.specs.Batch.{Batched}
use Rattle.rules.specs.PlainList.{added_by}
use Rattle.rules.specs.Members.{earliest}
use Rattle.rules.specs.Forward.{ForwardTrace, forward_of}
use Rattle.rules.specs.Worked.{header, room, forward, ForwardIs}
use Rattle.rules.specs.Order.{declare, event, used, unsound, no_rows}
use Rattle.rules.specs.SoundCases.{versions_used}
use Rattle.rules.specs.FileCases.{taken_in}
use Rattle.rules.specs.TraceCases.{not_entered, forward_in, forward_to, forward_refused}

-- 1 reads 0 at 1 and writes 0 at 2, which makes the second version of 0; 2 is in no event
abbrev pub writes : List ℕ
writes = declare 0 0 ++ (declare 1 1 ++ (declare 2 0 ++ (event 1 0 1 1 ++ event 2 1 0 2)))

abbrev pub written_back : Batched
written_back = taken_in writes

-- its records, the last first
abbrev pub written_plain : List Record
written_plain = added_by (capacity_of (room 8)) [] (header ++ writes)

abbrev pub written_forward : List ℕ → ForwardTrace
written_forward us = forward_of written_back.counts written_back.tables us 2 (replicate 4 9) (replicate 3 9)

-- 1 writes 2 at 1 and reads 0 at 2, which makes its second version
abbrev pub read_after : Batched
read_after = taken_in (declare 0 0 ++ (declare 1 1 ++ (declare 2 0 ++ (event 2 1 2 1 ++ event 1 0 1 2))))

-- sound, but grown by no file: the latest versions of two objects start at 6 and at 8, and there is no edge
abbrev pub two_starts : List ℕ → ForwardTrace
two_starts us =
    forward_of (counts 2 4 0 0 8)
    (tables (0 ∷ 2 ∷ 0 ∷ 3 ∷ []) (0 ∷ 0 ∷ 0 ∷ none ∷ 1 ∷ 0 ∷ 0 ∷ none ∷ 0 ∷ 6 ∷ 6 ∷ 0 ∷ 1 ∷ 8 ∷ 8 ∷ 1 ∷ []) [])
    us 9 (replicate 4 9) (replicate 2 9)

-- the traces of the lists, with buffers a byte longer than the trail of RecordCases has versions and entities
abbrev pub traces_in : List (List ℕ) → List ForwardTrace
traces_in = map (λ us. forward_in 8 5 us 5)

pub record MemberCases : Type 0 where
  -- "mark what any of them marks alone": the worked trail's study and montage; the stager, whose intake is at 5, and the report, at 6
  pub studies : ForwardIs (forward (0 ∷ 3 ∷ []) 4) 4 0 (1 ∷ 1 ∷ 1 ∷ 1 ∷ [])
  pub two : ForwardIs (forward (1 ∷ 2 ∷ []) 6) 2 5 (0 ∷ 1 ∷ 1 ∷ 0 ∷ [])
  -- "Repeats change no mark", and the order does not matter
  pub two_whole : forward (1 ∷ 2 ∷ []) 6 ≡ forward_to 2 5 (0 ∷ 0 ∷ 1 ∷ 0 ∷ 1 ∷ 9 ∷ []) (0 ∷ 1 ∷ 1 ∷ 0 ∷ 9 ∷ [])
  pub two_turned : forward (2 ∷ 1 ∷ []) 6 ≡ forward_to 2 5 (0 ∷ 0 ∷ 1 ∷ 0 ∷ 1 ∷ 9 ∷ []) (0 ∷ 1 ∷ 1 ∷ 0 ∷ 9 ∷ [])
  pub two_repeated : forward (2 ∷ 1 ∷ 1 ∷ 2 ∷ 2 ∷ 1 ∷ []) 6 ≡ forward_to 2 5 (0 ∷ 0 ∷ 1 ∷ 0 ∷ 1 ∷ 9 ∷ []) (0 ∷ 1 ∷ 1 ∷ 0 ∷ 9 ∷ [])
  pub longer_than_the_entities : ForwardIs (forward (0 ∷ 1 ∷ 2 ∷ 3 ∷ 3 ∷ 2 ∷ 1 ∷ 0 ∷ []) 7) 4 0 (1 ∷ 1 ∷ 1 ∷ 1 ∷ [])
  -- every member counts, wherever it stands: the montage's own marks and intake
  pub first_counts : ForwardIs (forward (3 ∷ 2 ∷ 2 ∷ []) 6) 3 0 (0 ∷ 1 ∷ 1 ∷ 1 ∷ [])
  pub last_counts : ForwardIs (forward (2 ∷ 2 ∷ 3 ∷ []) 6) 3 0 (0 ∷ 1 ∷ 1 ∷ 1 ∷ [])
  -- of a version or an entity that another member marks, too: the stager and the report at 1; the montage and the stager at 4; object 0
  -- and subject 1 at 1, whose first version alone gave to 2
  pub marked_already : ForwardIs (forward (1 ∷ 2 ∷ []) 1) 2 0 (0 ∷ 1 ∷ 1 ∷ 0 ∷ [])
  pub older_version : forward (3 ∷ 1 ∷ []) 4 ≡ forward_to 3 0 (0 ∷ 1 ∷ 1 ∷ 1 ∷ 1 ∷ 9 ∷ []) (0 ∷ 1 ∷ 1 ∷ 1 ∷ 9 ∷ [])
  pub older_version_gave : forward_of read_after.counts read_after.tables (0 ∷ 1 ∷ []) 1 (replicate 4 9) (replicate 3 9)
      ≡ forward_to 3 0 (1 ∷ 1 ∷ 1 ∷ 1 ∷ []) (1 ∷ 1 ∷ 1 ∷ [])
  -- "the earliest of the members'", of one without a kept intake too; where no edge enters a start version its start counts: 6, where the
  -- other's intake is at 8, and of two starts, at 6 and at 8
  pub intake_and_none : ForwardIs (forward (1 ∷ 3 ∷ []) 5) 3 0 (0 ∷ 1 ∷ 1 ∷ 1 ∷ [])
  pub start_and_intake : (forward_of (versions_used 6) not_entered (1 ∷ 2 ∷ []) 9 (replicate 6 9) (replicate 4 9)).answer
      ≡ record { refusal = 0; count = 2; intake = 6 }
  pub two_starts_lem : map two_starts ((0 ∷ 1 ∷ []) ∷ (1 ∷ 0 ∷ []) ∷ [])
      ≡ forward_to 2 6 (0 ∷ 0 ∷ 1 ∷ 1 ∷ []) (1 ∷ 1 ∷ []) ∷ forward_to 2 6 (0 ∷ 0 ∷ 1 ∷ 1 ∷ []) (1 ∷ 1 ∷ []) ∷ []
  pub earliest_of : map earliest ([] ∷ (7 ∷ []) ∷ (3 ∷ 5 ∷ 4 ∷ []) ∷ (5 ∷ 3 ∷ 4 ∷ []) ∷ (5 ∷ 4 ∷ 3 ∷ []) ∷ []) ≡ 0 ∷ 7 ∷ 3 ∷ 3 ∷ 3 ∷ []
  -- each from its own intake, and not all from the earliest, at time 0, from which object 0 reaches subject 1
  pub own_intakes : written_forward (0 ∷ 2 ∷ []) ≡ forward_to 2 0 (0 ∷ 0 ∷ 1 ∷ 1 ∷ []) (1 ∷ 0 ∷ 1 ∷ [])
  -- "an empty list marks nothing": 0 below the counts, and past them as it was; "0 for an empty list"
  pub empty : forward_in 9 6 [] 5 ≡ forward_to 0 0 (0 ∷ 0 ∷ 0 ∷ 0 ∷ 0 ∷ 0 ∷ 0 ∷ 9 ∷ 9 ∷ []) (0 ∷ 0 ∷ 0 ∷ 0 ∷ 9 ∷ 9 ∷ [])
  pub empty_exact : forward_in 7 4 [] 5 ≡ forward_to 0 0 (replicate 7 0) (replicate 4 0)
  pub empty_fresh : forward_of fresh_counts no_rows [] 0 (9 ∷ []) (9 ∷ []) ≡ forward_to 0 0 (9 ∷ []) (9 ∷ [])
  -- it is refused for unsound tables, first, and for short buffers as any list is
  pub empty_unsound : forward_of (used 1) unsound [] 5 (9 ∷ 9 ∷ []) (9 ∷ 9 ∷ []) ≡ forward_refused 16 2 2
  pub empty_16_14 : (forward_of (used 1) unsound [] 5 [] []).answer ≡ record { refusal = 16; count = 0; intake = 0 }
  pub empty_work_short : forward_in 6 4 [] 5 ≡ forward_refused 14 6 4
  pub empty_marks_short : forward_in 7 3 [] 5 ≡ forward_refused 14 7 3
  -- "One undeclared member gives 5", at the beginning, in the middle and at the end; nothing is written
  pub undeclared : traces_in ((4 ∷ 1 ∷ 2 ∷ []) ∷ (1 ∷ 4 ∷ 2 ∷ []) ∷ (1 ∷ 2 ∷ 4 ∷ []) ∷ (1 ∷ 1 ∷ 4294967295 ∷ []) ∷ [])
      ≡ forward_refused 5 8 5 ∷ forward_refused 5 8 5 ∷ forward_refused 5 8 5 ∷ forward_refused 5 8 5 ∷ []
  -- "A trace checks 16, 5, 14."
  pub list_16_5 : (forward_of (used 1) unsound (1 ∷ 2 ∷ []) 5 [] []).answer ≡ record { refusal = 16; count = 0; intake = 0 }
  pub list_5_14 : forward_in 6 3 (1 ∷ 4 ∷ []) 5 ≡ forward_refused 5 6 3
  pub list_14 : forward_in 6 3 (1 ∷ 3 ∷ []) 5 ≡ forward_refused 14 6 3
