-- Document 01: "Each refusal is given when its condition is the first to hold in this order, and never otherwise." Rows in
-- which two conditions hold at once, for each two that stand next to each other; those with 17 (document 02, 2.4) are in SignedCases. The
-- proof is in proofs/Cases.antt.
use Rattle.std.specs.Prelude.{ℕ, ◌≡◌, List, [], ◌∷◌, ◌++◌, replicate}
use Rattle.refusals.specs.declared.Refusal.{Refusal}
use Rattle.refusals.specs.declared.Refusal.TheVariants.{NotEventFile, WrongVersion, CutShort, BadField, Undeclared, NotNext, SourceIsTarget, WrongSort, TooEarly, EntitiesFull, VersionsFull, EdgesFull, AcceptedFull, BufferShort, OutputShort, Unsound}
use Rattle.refusals.specs.Refusals.{refusal_no}
use Rattle.rows.specs.declared.Counts.{Counts}
use Rattle.rules.specs.Trail.{Tables, tables, counts, fresh_counts, none, most_accepted}
use Rattle.rules.specs.Batch.{batch_of}
use Rattle.rules.specs.Backward.{backward_of}
use Rattle.rules.specs.Forward.{forward_of}
use Rattle.rules.specs.KeptLog.{kept_log_of}
use Rattle.rules.specs.Worked.{header, answer}

-- a declaration of entity n with sort s; an event of kind k from u to v at t
abbrev pub declare : ℕ → ℕ → List ℕ
declare n s = 0 ∷ s ∷ n ∷ 0 ∷ 0 ∷ 0 ∷ 0 ∷ 0 ∷ 0 ∷ 0 ∷ 0 ∷ 0 ∷ []

abbrev pub event : ℕ → ℕ → ℕ → ℕ → List ℕ
event k u v t = k ∷ 0 ∷ u ∷ 0 ∷ v ∷ 0 ∷ 0 ∷ 0 ∷ t ∷ 0 ∷ 0 ∷ 0 ∷ []

-- object 0 was read by subject 1 at 5, and the edge stands for all that was accepted; the tables hold no row more
abbrev pub used : ℕ → Counts
used accepted = counts 2 2 1 accepted 5

abbrev pub full_of : ℕ → Tables
full_of accepted = tables (0 ∷ 0 ∷ 1 ∷ 1 ∷ []) (0 ∷ 0 ∷ 0 ∷ none ∷ 1 ∷ 0 ∷ 5 ∷ none ∷ []) (0 ∷ 1 ∷ 1 ∷ 5 ∷ accepted ∷ 5 ∷ [])

abbrev pub full : Tables
full = full_of 1

-- the same with a version of an entity that does not exist
abbrev pub unsound : Tables
unsound = tables full.entities (9 ∷ 0 ∷ 0 ∷ none ∷ 1 ∷ 0 ∷ 5 ∷ none ∷ []) full.edges

-- no entity row; no version row
abbrev pub no_rows : Tables
no_rows = tables [] [] []

abbrev pub no_version : Tables
no_version = tables (0 ∷ 0 ∷ []) [] []

-- a file of one record, and of any bytes after the header, taken into a trail
abbrev pub Refuses : Counts → Tables → List ℕ → Refusal → ℕ → Type 0
Refuses c t bytes r n = (batch_of c t (header ++ bytes)).answer ≡ answer (refusal_no r) n 0

pub record OrderOfRefusals : Type 0 where
  -- "A batch checks 16, 1, 2, then per record 3, 4"
  pub r16_1 : (batch_of (used 1) unsound []).answer ≡ answer (refusal_no Unsound) 0 0
  pub r1_2 : (batch_of fresh_counts no_rows (0x53 ∷ 0x4C ∷ 0x55 ∷ 3 ∷ 0 ∷ 0 ∷ 0 ∷ 0 ∷ [])).answer ≡ answer (refusal_no NotEventFile) 0 0
  pub r1_2_zeros : (batch_of fresh_counts no_rows (0x53 ∷ 0x4C ∷ 0x54 ∷ 3 ∷ 0 ∷ 0 ∷ 0 ∷ 1 ∷ [])).answer ≡ answer (refusal_no NotEventFile) 0 0
  pub r2_3 : (batch_of fresh_counts no_rows (0x53 ∷ 0x4C ∷ 0x54 ∷ 1 ∷ 1 ∷ 0 ∷ 0 ∷ 0 ∷ 7 ∷ [])).answer ≡ answer (refusal_no WrongVersion) 0 0
  pub r3_4 : Refuses fresh_counts no_rows (6 ∷ []) CutShort 0
  pub r3_after : Refuses fresh_counts full (declare 0 1 ++ replicate 11 9) CutShort 1
  pub r4_6 : Refuses fresh_counts no_rows (declare 7 2) BadField 0
  pub r4_5 : Refuses (used 1) full (6 ∷ 0 ∷ 9 ∷ replicate 9 0) BadField 0
  -- "a declaration 6, 10, 11"
  pub r6_10 : Refuses fresh_counts no_rows (declare 1 0) NotNext 0
  pub r10_11 : Refuses fresh_counts no_rows (declare 0 0) EntitiesFull 0
  pub r11 : Refuses fresh_counts no_version (declare 0 0) VersionsFull 0
  -- "an event 5, 7, 8, 9, 13, 12, 11", with 17 after 8 now: 8 and 17, and 17 and 9, are in SignedCases
  pub r5_7 : Refuses (used 1) full (event 1 9 9 9) Undeclared 0
  pub r5_8 : Refuses (used 1) full (event 1 1 9 9) Undeclared 0
  pub r7_8 : Refuses (used 1) full (event 1 1 1 9) SourceIsTarget 0
  pub r8_9 : Refuses (used 1) full (event 1 1 0 4) WrongSort 0
  pub r8_target : Refuses (used 1) full (event 4 1 0 4) WrongSort 0
  pub r9_13 : Refuses (used most_accepted) (full_of most_accepted) (event 2 1 0 4) TooEarly 0
  -- a time equal to the last does not give 9: the next check follows
  pub r13_tie : Refuses (used most_accepted) (full_of most_accepted) (event 2 1 0 5) AcceptedFull 0
  pub r12_tie : Refuses (used 1) full (event 2 1 0 5) EdgesFull 0
  pub r13_12 : Refuses (used most_accepted) (full_of most_accepted) (event 2 1 0 6) AcceptedFull 0
  -- a repeat, too
  pub r13_repeat : Refuses (used most_accepted) (full_of most_accepted) (event 1 0 1 6) AcceptedFull 0
  pub r12_11 : Refuses (used 1) full (event 2 1 0 6) EdgesFull 0
  pub r11_event : Refuses (used 1) (tables full.entities full.versions (full.edges ++ replicate 6 0)) (event 2 1 0 6) VersionsFull 0
  -- kind 5 is no repeat, and wants an edge row
  pub r12_execve : Refuses (used 1) full (event 5 0 1 6) EdgesFull 0
  -- "A trace checks 16, 5, 14."
  pub trace_16_5 : (backward_of (used 1) unsound 9 5 [] []).answer ≡ record { refusal = refusal_no Unsound; count = 0 }
  pub trace_5_14 : (backward_of (used 1) full 2 5 [] []).answer ≡ record { refusal = refusal_no Undeclared; count = 0 }
  pub trace_14_work : (backward_of (used 1) full 1 5 (9 ∷ []) (9 ∷ 9 ∷ [])).answer ≡ record { refusal = refusal_no BufferShort; count = 0 }
  pub trace_14_marks : (forward_of (used 1) full (1 ∷ []) 5 (9 ∷ 9 ∷ []) (9 ∷ [])).answer ≡ record { refusal = refusal_no BufferShort; count = 0; intake = 0 }
  pub trace_refused_marks : (forward_of (used 1) full (1 ∷ []) 5 (9 ∷ []) (8 ∷ 8 ∷ [])).marks ≡ 8 ∷ 8 ∷ []
  -- "The writer checks 16, 15."
  pub log_16_15 : (kept_log_of (used 1) unsound []).answer ≡ record { refusal = refusal_no Unsound; length = 0 }
  pub log_15 : (kept_log_of (used 1) full (replicate 43 9)).answer ≡ record { refusal = refusal_no OutputShort; length = 0 }
