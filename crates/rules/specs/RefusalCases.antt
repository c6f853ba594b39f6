-- Document 01, "Refused because ..": the numbers, and each refusal of a record but 17 just given and just not. The proof is in
-- proofs/RefusalCases.antt.
use Rattle.std.specs.Prelude.{ℕ, ◌-◌, ◌≡◌, List, [], ◌∷◌, ◌++◌, map, replicate}
use Rattle.refusals.specs.declared.Refusal.{Refusal}
use Rattle.refusals.specs.declared.Refusal.TheVariants.{NotEventFile, WrongVersion, CutShort, BadField, Undeclared, NotNext, SourceIsTarget, WrongSort, TooEarly, EntitiesFull, VersionsFull, EdgesFull, AcceptedFull, BufferShort, OutputShort, Unsound, Signed}
use Rattle.refusals.specs.Refusals.{refusal_no}
use Rattle.rows.specs.declared.Counts.{Counts}
use Rattle.rules.specs.Trail.{Tables, tables, counts, most_accepted}
use Rattle.rules.specs.Batch.{Batched, batch_of}
use Rattle.rules.specs.Worked.{header, answer, file}
use Rattle.rules.specs.Order.{declare, event, used, full_of, full, unsound}
use Rattle.rules.specs.SoundCases.{entity_rows, version_rows, edge_rows_of, sound_rows, versions_used}

-- "Refused because of the input", "Refused because of the state", and document 02, 2.4
abbrev pub refusals : List Refusal
refusals =
    NotEventFile ∷ WrongVersion ∷ CutShort ∷ BadField ∷ Undeclared ∷ NotNext ∷ SourceIsTarget ∷ WrongSort ∷ TooEarly
    ∷ EntitiesFull ∷ VersionsFull ∷ EdgesFull ∷ AcceptedFull ∷ BufferShort ∷ OutputShort ∷ Unsound ∷ Signed
    ∷ []

-- the sound rows of SoundCases, in tables with e, v and d numbers more; with n events accepted
abbrev pub longer_of : ℕ → ℕ → ℕ → ℕ → Tables
longer_of n e v d = tables (entity_rows ++ replicate e 7) (version_rows ++ replicate v 7) (edge_rows_of (n - 4) ++ replicate d 7)

abbrev pub longer : ℕ → ℕ → ℕ → Tables
longer e v d = longer_of 7 e v d

abbrev pub refusal_in : Counts → Tables → List ℕ → ℕ
refusal_in c t bytes = (batch_of c t (header ++ bytes)).answer.refusal

-- the refusal of a declaration of entity n, and of an event, where there is room for each row
abbrev pub declare_refusal : ℕ → ℕ
declare_refusal n = refusal_in (versions_used 5) (longer 2 4 6) (declare n 0)

abbrev pub event_refusal : ℕ → ℕ → ℕ → ℕ → ℕ
event_refusal k u v t = refusal_in (versions_used 5) (longer 2 4 6) (event k u v t)

-- with n events accepted: a read that is kept, a read that repeats
abbrev pub kept_after : ℕ → Batched
kept_after n = batch_of (counts 4 5 5 n 9) (longer_of n 2 4 6) (header ++ event 1 3 1 10)

abbrev pub repeated_after : ℕ → Batched
repeated_after n = batch_of (counts 4 5 5 n 9) (longer_of n 2 4 6) (header ++ event 1 0 1 10)

-- with e, v or d numbers past the rows in use: a declaration, a new version, a wider one
abbrev pub declared_in : ℕ → ℕ → ℕ
declared_in e v = refusal_in (versions_used 5) (longer e v 0) (declare 4 0)

abbrev pub renewed_in : ℕ → ℕ → ℕ
renewed_in v d = refusal_in (versions_used 5) (longer 0 v d) (event 2 1 0 10)

abbrev pub widened_in : ℕ → ℕ → ℕ
widened_in v d = refusal_in (versions_used 5) (longer 0 v d) (event 4 1 2 10)

-- no row more is left: an event of kind k from u to v
abbrev pub full_refusal : ℕ → ℕ → ℕ → ℕ
full_refusal u v k = refusal_in (versions_used 5) sound_rows (event k u v 10)

pub record RefusalCases : Type 0 where
  pub refusal_numbers : map refusal_no refusals ≡ 1 ∷ 2 ∷ 3 ∷ 4 ∷ 5 ∷ 6 ∷ 7 ∷ 8 ∷ 9 ∷ 10 ∷ 11 ∷ 12 ∷ 13 ∷ 14 ∷ 15 ∷ 16 ∷ 17 ∷ []
  -- "6. Declared number is not the next."
  pub next_number : map declare_refusal (0 ∷ 3 ∷ 4 ∷ 5 ∷ []) ≡ 6 ∷ 6 ∷ 0 ∷ 6 ∷ []
  -- "5. Entity not declared." "7. Source equals target."
  pub source : map (λ u. event_refusal 1 u 1 10) (0 ∷ 1 ∷ 2 ∷ 3 ∷ 4 ∷ 5 ∷ []) ≡ 0 ∷ 7 ∷ 8 ∷ 0 ∷ 5 ∷ 5 ∷ []
  pub target : map (λ v. event_refusal 1 0 v 10) (0 ∷ 1 ∷ 2 ∷ 3 ∷ 4 ∷ 5 ∷ []) ≡ 7 ∷ 0 ∷ 0 ∷ 8 ∷ 5 ∷ 5 ∷ []
  -- "8. Source or target of the wrong sort.", of kinds 1 to 5
  pub object_to_subject : map (λ k. event_refusal k 0 1 10) (1 ∷ 2 ∷ 3 ∷ 4 ∷ 5 ∷ []) ≡ 0 ∷ 8 ∷ 0 ∷ 8 ∷ 0 ∷ []
  pub subject_to_object : map (λ k. event_refusal k 1 0 10) (1 ∷ 2 ∷ 3 ∷ 4 ∷ 5 ∷ []) ≡ 8 ∷ 0 ∷ 8 ∷ 8 ∷ 8 ∷ []
  pub subject_to_subject : map (λ k. event_refusal k 1 2 10) (1 ∷ 2 ∷ 3 ∷ 4 ∷ 5 ∷ []) ≡ 8 ∷ 8 ∷ 8 ∷ 0 ∷ 8 ∷ []
  pub object_to_object : map (λ k. event_refusal k 0 3 10) (1 ∷ 2 ∷ 3 ∷ 4 ∷ 5 ∷ []) ≡ 8 ∷ 8 ∷ 8 ∷ 8 ∷ 8 ∷ []
  -- 9, document 02, 2.5: "Equal to the last time is now accepted; earlier, or time 0, still gives 9."
  pub time : map (event_refusal 1 0 1) (0 ∷ 8 ∷ 9 ∷ 10 ∷ []) ≡ 9 ∷ 9 ∷ 0 ∷ 0 ∷ []
  -- "13. Accepted is 1,000,000."
  pub accepted_kept : map (λ n. (kept_after n).answer.refusal) (999999 ∷ 1000000 ∷ []) ≡ 0 ∷ 13 ∷ []
  pub accepted_repeated : map (λ n. (repeated_after n).answer.refusal) (999999 ∷ 1000000 ∷ []) ≡ 0 ∷ 13 ∷ []
  pub millionth_kept : (kept_after 999999).counts ≡ counts 4 6 6 1000000 10
  pub millionth_repeated : (repeated_after 999999).counts ≡ counts 4 5 5 1000000 10
  -- an edge that stands for them all
  pub millionth_counted : batch_of (used 999999) (full_of 999999) (header ++ event 1 0 1 6)
      ≡ record { answer = answer 0 1 1; counts = counts 2 2 1 1000000 6; tables = tables full.entities full.versions (0 ∷ 1 ∷ 1 ∷ 5 ∷ 1000000 ∷ 6 ∷ []) }
  -- "10. No entity row left.": a row has 2 numbers
  pub no_entity_row : map (λ e. declared_in e 4) (0 ∷ 1 ∷ 2 ∷ 3 ∷ []) ≡ 10 ∷ 10 ∷ 0 ∷ 0 ∷ []
  -- "11. No version row left where one is to be made.": a row has 4 numbers
  pub no_version_row : map (declared_in 2) (0 ∷ 3 ∷ 4 ∷ []) ≡ 11 ∷ 11 ∷ 0 ∷ []
  pub no_new_version : map (λ v. renewed_in v 6) (0 ∷ 3 ∷ 4 ∷ []) ≡ 11 ∷ 11 ∷ 0 ∷ []
  pub none_to_be_made : map (λ v. widened_in v 6) (0 ∷ 3 ∷ 4 ∷ []) ≡ 0 ∷ 0 ∷ 0 ∷ []
  -- "12. No edge row left where one is to be kept.": a row has 6 numbers
  pub no_edge_row : map (widened_in 0) (0 ∷ 5 ∷ 6 ∷ []) ≡ 12 ∷ 12 ∷ 0 ∷ []
  pub no_edge_row_renewed : map (renewed_in 4) (0 ∷ 5 ∷ 6 ∷ []) ≡ 12 ∷ 12 ∷ 0 ∷ []
  -- a read and a load repeat what an edge gave, and want no row; an execve, a fork and a first write want one
  pub full_from_object : map (full_refusal 0 1) (1 ∷ 3 ∷ 5 ∷ []) ≡ 0 ∷ 0 ∷ 12 ∷ []
  pub full_fork : full_refusal 1 2 4 ≡ 12
  pub full_write : full_refusal 1 0 2 ≡ 12
  -- a load that repeats a read, at a full edge table
  pub full_load : (batch_of (used 1) full (header ++ event 3 0 1 6)).counts ≡ counts 2 2 1 2 6
  -- a refused batch leaves the counts and the tables
  pub unsound_left : batch_of (used 1) unsound (file 1) ≡ record { answer = answer 16 0 0; counts = used 1; tables = unsound }
  pub header_left : batch_of (used 1) full [] ≡ record { answer = answer 1 0 0; counts = used 1; tables = full }
  pub repeat_left : batch_of (used most_accepted) (full_of most_accepted) (header ++ event 1 0 1 6)
      ≡ record { answer = answer 13 0 0; counts = used most_accepted; tables = full_of most_accepted }
  pub record_left : batch_of (used 1) full (header ++ event 2 1 0 6) ≡ record { answer = answer 12 0 0; counts = used 1; tables = full }
