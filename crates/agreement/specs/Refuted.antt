-- Document 01, "Agreement": "These are shut out". The claims determine counts, rows in use, marks, count, intake and the numbers that the
-- calls return (`Determined`, and equations), so a wrong one contradicts them. `Refuted` says it of each wrong answer that the document
-- names, of wrong counts and last times of edges (document 02, 2.1), of wrong traces of a list (2.2), of wrong numbers of edges tried (2.3) and
-- of wrong signatures (2.4), for the worked list of calls, that list with one event more, the worked file with a signature after it, or a file of
-- two or three events: no answer that is wrong in this way, whatever it is otherwise, is one of which the claim holds.
use Rattle.std.specs.Prelude.{ℕ, ◌≤◌, ◌<◌, ◌≡◌, length, get_or, replicate}
use mathlib.Core.List.{List, [], ◌∷◌, ◌++◌, Memᴰ}
use Rattle.refusals.specs.declared.Refusal.TheVariants.{EdgesFull, Unsound, Signed}
use Rattle.refusals.specs.Refusals.{refusal_no}
use Rattle.rows.specs.declared.Counts.{Counts}
use Rattle.rows.specs.Rows.{entity_at, version_at, edge_at}
use Rattle.record.specs.declared.Event.{Event}
use Rattle.record.specs.declared.Record.{Record}
use Rattle.rules.specs.declared.BatchAnswer.{BatchAnswer}
use Rattle.rules.specs.Trail.{Tables, trail_of}
use Rattle.rules.specs.Sound.{count_sum}
use Rattle.rules.specs.Batch.{Batched}
use Rattle.rules.specs.Backward.{BackwardTrace, backward_of}
use Rattle.rules.specs.Forward.{ForwardTrace}
use Rattle.rules.specs.KeptLog.{KeptLog, signature_record}
use Rattle.rules.specs.History.{Item, accepted, kept_events}
use Rattle.rules.specs.PlainList.{worked, items_of}
use Rattle.rules.specs.Calls.{Call, batch, plain_after}
use Rattle.rules.specs.Worked as worked_trail
use Rattle.rules.specs.CallCases.{execves}
use Rattle.rules.specs.MemberCases.{written_plain}
use Rattle.rules.specs.Order.{event}
use Rattle.rules.specs.SignedCases.{signed_file}
use Rattle.rules.specs.SignedListCases.{signed_plain, worked_signed, report_written}
use Rattle.closure.specs.Same.{SameRows}
use Rattle.agreement.specs.Demand2.{Holds, Answered}
use Rattle.agreement.specs.Demand3.{BackwardAgrees, ForwardAgrees, GainsAreKept}
use Rattle.agreement.specs.RoundTrip.{TakenAgain, LogAgrees}

-- the same bytes for n entities
abbrev pub SameMarks : ℕ → List ℕ → List ℕ → Type 0
SameMarks n marks marks' = (x : ℕ) → x < n → get_or marks x 0 ≡ get_or marks' x 0

-- For any plain list, two answers of which a claim holds are the same; of traces, if they are not refused, whatever the buffers lent
pub record Determined : Type 0 where
  pub backward : (rs : List Record) (v time : ℕ) (work marks work' marks' : List ℕ) (b b' : BackwardTrace) → BackwardAgrees rs v time work marks b
      → BackwardAgrees rs v time work' marks' b' → b.answer.refusal ≡ 0 → b'.answer.refusal ≡ 0
      → SameMarks (worked rs).counts.entities b.marks b'.marks × (b.answer.count ≡ b'.answer.count)
  pub forward : (rs : List Record) (us : List ℕ) (time : ℕ) (work marks work' marks' : List ℕ) (f f' : ForwardTrace) → ForwardAgrees rs us time work marks f
      → ForwardAgrees rs us time work' marks' f' → f.answer.refusal ≡ 0 → f'.answer.refusal ≡ 0
      → SameMarks (worked rs).counts.entities f.marks f'.marks × (f.answer.count ≡ f'.answer.count) × (f.answer.intake ≡ f'.answer.intake)
  pub holds : (rs : List Record) (c c' : Counts) (t t' : Tables) → Holds rs c t → Holds rs c' t' → (c ≡ c') × SameRows (trail_of c t) (trail_of c' t')
  pub answer : (rs : List Record) (t : Tables) (file : List ℕ) (rs' : List Record) (a a' : BatchAnswer) → Answered rs t file rs' a
      → Answered rs t file rs' a' → a ≡ a'

-- The worked list of calls: one batch of the worked file into a fresh trail, with n edge rows lent; and its plain list
abbrev pub worked_calls : ℕ → List Call
worked_calls n = batch (worked_trail.room n) (worked_trail.file 1) ∷ []

abbrev pub worked_plain : List Record
worked_plain = plain_after (worked_calls 8)

-- with one event more at the end of the file, at time 8: write 1 to 3
abbrev pub longer_plain : List Record
longer_plain = plain_after (batch (worked_trail.room 8) (worked_trail.file 1 ++ (2 ∷ 0 ∷ 1 ∷ 0 ∷ 3 ∷ 0 ∷ 0 ∷ 0 ∷ 8 ∷ 0 ∷ 0 ∷ 0 ∷ [])) ∷ [])

abbrev pub TakenAgainClaim : Batched → Type 0
TakenAgainClaim b = TakenAgain (worked_trail.batch 8).counts (worked_trail.batch 8).tables b

-- The claim holds of no wrong answer: of a trace that is not refused; of the batch of the worked file, lent n edge rows; of counts and
-- tables

abbrev pub NoBackward : List Record → ℕ → ℕ → (BackwardTrace → Type 0) → Type 0
NoBackward rs v time Wrong = (work marks : List ℕ) (b : BackwardTrace) → b.answer.refusal ≡ 0 → Wrong b → BackwardAgrees rs v time work marks b → ⊥

abbrev pub NoForward : List Record → List ℕ → ℕ → (ForwardTrace → Type 0) → Type 0
NoForward rs us time Wrong = (work marks : List ℕ) (f : ForwardTrace) → f.answer.refusal ≡ 0 → Wrong f → ForwardAgrees rs us time work marks f → ⊥

abbrev pub NoAnswer : ℕ → (BatchAnswer → Type 0) → Type 0
NoAnswer n Wrong = (a : BatchAnswer) → Wrong a → Answered [] (worked_trail.room n) (worked_trail.file 1) (plain_after (worked_calls n)) a → ⊥

abbrev pub NoTables : (Counts → Tables → Type 0) → Type 0
NoTables Wrong = (c : Counts) (t : Tables) → Wrong c t → Holds worked_plain c t → ⊥

-- Document 02, 2.4: the worked file with the signature of the report after it, and bytes more
abbrev pub NoSigned : (Counts → Tables → Type 0) → Type 0
NoSigned Wrong = (c : Counts) (t : Tables) → Wrong c t → Holds (signed_plain []) c t → ⊥

abbrev pub NoSignedAnswer : List ℕ → (BatchAnswer → Type 0) → Type 0
NoSignedAnswer bytes Wrong =
    (a : BatchAnswer) → Wrong a → Answered [] (worked_trail.room 8) (signed_file bytes) (plain_after (batch (worked_trail.room 8) (signed_file bytes) ∷ [])) a → ⊥

abbrev pub NoSignedLog : (Batched → Type 0) → Type 0
NoSignedLog Wrong = (c : Counts) (t : Tables) → Holds (signed_plain []) c t → (b : Batched) → Wrong b → TakenAgain c t b → ⊥

-- of the four entities, none but x is marked
abbrev pub OnlyMarked : ℕ → List ℕ → Type 0
OnlyMarked x marks = (y : ℕ) → y < 4 → get_or marks y 0 ≡ 1 → y ≡ x

pub record Refuted : Type 0 where
  -- "a trace marking only its own entity": P4, P5
  pub backward_only_itself : NoBackward worked_plain 2 6 (λ b. OnlyMarked 2 b.marks)
  pub forward_only_itself : NoForward worked_plain (3 ∷ []) 0 (λ f. OnlyMarked 3 f.marks)
  -- "or always the same marks": P2 against P4, P5 against P8
  pub backward_same_marks : (work marks : List ℕ) (b b' : BackwardTrace) → b.answer.refusal ≡ 0 → b'.answer.refusal ≡ 0
      → SameMarks 4 b.marks b'.marks → BackwardAgrees worked_plain 2 1 work marks b → BackwardAgrees worked_plain 2 6 work marks b' → ⊥
  pub forward_same_marks : (work marks : List ℕ) (f f' : ForwardTrace) → f.answer.refusal ≡ 0 → f'.answer.refusal ≡ 0
      → SameMarks 4 f.marks f'.marks → ForwardAgrees worked_plain (3 ∷ []) 0 work marks f → ForwardAgrees worked_plain (0 ∷ []) 4 work marks f' → ⊥
  -- "Taking an edge from an older version of u for a repeat: time 6 is dropped and 2 vanishes from P5."
  pub forward_report_missed : NoForward worked_plain (3 ∷ []) 0 (λ f. get_or f.marks 2 0 ≡ 0)
  -- "Widening a version that already gave something: the montage appears in P3."
  pub backward_montage_at_4 : NoBackward worked_plain 2 4 (λ b. get_or b.marks 3 0 ≡ 1)
  -- "Using all edges into the start version without looking at t: P3 again."
  pub backward_montage_at_5 : NoBackward worked_plain 2 5 (λ b. get_or b.marks 3 0 ≡ 1)
  -- events at t or later alone: the stager and the report vanish from P8
  pub forward_from_t_alone : NoForward worked_plain (0 ∷ []) 4 (λ f. OnlyMarked 0 f.marks)
  -- edges followed against their direction: the study appears in P6
  pub forward_study_at_4 : NoForward worked_plain (1 ∷ []) 4 (λ f. get_or f.marks 0 0 ≡ 1)
  -- "its previous", and "going from a version to each one whose previous it is", left out: the edge from the study enters the stager's
  -- first version, the edge to the montage at 8 leaves its second
  pub backward_without_previous : NoBackward longer_plain 3 8 (λ b. get_or b.marks 0 0 ≡ 0)
  pub forward_without_version_steps : NoForward longer_plain (0 ∷ []) 4 (λ f. get_or f.marks 3 0 ≡ 0)
  -- "through events accepted after the intake alone": the stager, which the montage gave to before 8
  pub forward_before_intake : NoForward longer_plain (3 ∷ []) 8 (λ f. get_or f.marks 1 0 ≡ 1)
  -- "the mark buffer gets 1 .., else 0": no other byte
  pub backward_other_byte : NoBackward worked_plain 2 4 (λ b. (get_or b.marks 3 0 ≡ 0 → ⊥) × (get_or b.marks 3 0 ≡ 1 → ⊥))
  pub forward_other_byte : NoForward worked_plain (1 ∷ []) 4 (λ f. (get_or f.marks 0 0 ≡ 0 → ⊥) × (get_or f.marks 0 0 ≡ 1 → ⊥))
  -- "the count is the number of ones in the mark buffer"
  pub backward_other_count : NoBackward worked_plain 2 6 (λ b. (b.answer.count ≡ 4 → ⊥))
  pub forward_other_count : NoForward worked_plain (3 ∷ []) 0 (λ f. (f.answer.count ≡ 3 → ⊥))
  -- "intakes picked freely": 0, or any but that of P6
  pub intake_zero : NoForward worked_plain (1 ∷ []) 4 (λ f. f.answer.intake ≡ 0)
  pub intake_free : NoForward worked_plain (1 ∷ []) 4 (λ f. (f.answer.intake ≡ 1 → ⊥))
  -- document 02, 2.2: the latest intake of the stager and the report at 6; of an empty list any but 0
  pub intake_latest : NoForward worked_plain (1 ∷ 2 ∷ []) 6 (λ f. f.answer.intake ≡ 6)
  pub intake_of_none : NoForward worked_plain [] 7 (λ f. (f.answer.intake ≡ 0 → ⊥))
  -- the first or the last member left out; the counts of the members added up; an entity marked for an empty list
  pub first_left_out : NoForward worked_plain (0 ∷ 3 ∷ []) 4 (λ f. get_or f.marks 0 0 ≡ 0)
  pub last_left_out : NoForward worked_plain (0 ∷ 3 ∷ []) 4 (λ f. get_or f.marks 3 0 ≡ 0)
  pub counts_added : NoForward worked_plain (0 ∷ 3 ∷ []) 4 (λ f. f.answer.count ≡ 6)
  pub marks_of_none : NoForward worked_plain [] 7 (λ f. get_or f.marks 0 0 ≡ 1)
  -- all members from the earliest intake: the subject, from which 0 takes in at 2
  pub all_from_the_earliest : NoForward written_plain (0 ∷ 2 ∷ []) 2 (λ f. get_or f.marks 1 0 ≡ 1)
  -- 5 for the first member only; an empty list refused though the buffers are long enough
  pub undeclared_taken : NoForward worked_plain (1 ∷ 4 ∷ []) 6 (λ f. Unit {0})
  pub none_refused : (work marks : List ℕ) (f : ForwardTrace) → 5 ≤ length work → 4 ≤ length marks → (f.answer.refusal ≡ 0 → ⊥)
      → ForwardAgrees worked_plain [] 7 work marks f → ⊥
  -- "In such a list a trace is refused only with 5 or 14": not with 16, and not at all if the entities are declared and the buffers are
  -- long enough
  pub backward_refused : (work marks : List ℕ) (b : BackwardTrace) → b.answer.refusal ≡ refusal_no Unsound → BackwardAgrees worked_plain 2 6 work marks b → ⊥
  pub forward_refused : (work marks : List ℕ) (f : ForwardTrace) → f.answer.refusal ≡ refusal_no Unsound
      → ForwardAgrees worked_plain (3 ∷ []) 0 work marks f → ⊥
  pub backward_always_refused : (work marks : List ℕ) (b : BackwardTrace) → 5 ≤ length work → 4 ≤ length marks → (b.answer.refusal ≡ 0 → ⊥)
      → BackwardAgrees worked_plain 2 6 work marks b → ⊥
  pub forward_always_refused : (work marks : List ℕ) (f : ForwardTrace) → 5 ≤ length work → 4 ≤ length marks → (f.answer.refusal ≡ 0 → ⊥)
      → ForwardAgrees worked_plain (3 ∷ []) 0 work marks f → ⊥
  -- "a trail that keeps no edge (demands 2 and 3)"; time 6 dropped
  pub no_edge : NoTables (λ c t. c.edges ≡ 0)
  pub no_edge_traced : (c : Counts) (t : Tables) (work marks : List ℕ) → c.edges ≡ 0 → 5 ≤ length work → 4 ≤ length marks
      → BackwardAgrees worked_plain 2 6 work marks (backward_of c t 2 6 work marks) → ⊥
  pub time_6_dropped : NoTables (λ c t. c.edges ≡ 3)
  -- every version widened; a new version for every kept event
  pub widen_always : NoTables (λ c t. c.versions ≡ 4)
  pub renew_always : NoTables (λ c t. c.versions ≡ 8)
  -- a version for each accepted event, besides the entities'
  pub version_each_event : NoTables (λ c t. c.versions ≡ 11)
  -- "one that handles the first record and skips the rest", in the counts; by what it says it took in, below
  pub first_record_counted : NoTables (λ c t. c.entities ≡ 1)
  -- "accepted counts .. picked freely"; a last time that a repeat does not set
  pub accepted_free : NoTables (λ c t. (c.accepted ≡ 7 → ⊥))
  pub last_without_repeat : NoTables (λ c t. c.last ≡ 6)
  -- rows of P1: the edge at 6 from the stager's older version; the report's end as at 2; the stager's latest version not the new one
  pub edge_from_older : NoTables (λ c t. (edge_at t.edges 3).from.0 ≡ 1)
  pub end_not_widened : NoTables (λ c t. (version_at t.versions 2).end ≡ 2)
  pub latest_not_new : NoTables (λ c t. (entity_at t.entities 1).latest.0 ≡ 1)
  -- document 02, 2.1: the read at 3 counted by no edge, or by the edge at 6; the last time as when the edge was kept, or the trail's;
  -- counts with another sum than 7
  pub repeat_not_counted : NoTables (λ c t. (edge_at t.edges 0).count ≡ 1)
  pub repeat_counted_elsewhere : NoTables (λ c t. (edge_at t.edges 3).count ≡ 2)
  pub last_not_set : NoTables (λ c t. (edge_at t.edges 0).last ≡ 1)
  pub last_of_the_trail : NoTables (λ c t. (edge_at t.edges 0).last ≡ 7)
  pub sum_free : NoTables (λ c t. (count_sum (edge_at t.edges) c.edges ≡ 7 → ⊥))
  -- two execves and a read that repeats both: the oldest edge counts it; the newest keeps the last time that it had
  pub count_on_the_oldest : (c : Counts) (t : Tables) → (edge_at t.edges 0).count ≡ 2 → Holds execves c t → ⊥
  pub last_of_the_kept : (c : Counts) (t : Tables) → (edge_at t.edges 1).last ≡ 2 → Holds execves c t → ⊥
  -- "a call refusing all files"; the first record alone
  pub all_refused : NoAnswer 8 (λ a. a.taken ≡ 0)
  pub first_record_taken : NoAnswer 8 (λ a. a.taken ≡ 1)
  -- "no row left" while a row is left: the event at 6 refused with eight edge rows; P10, the event at 7 with four
  pub no_row_left : NoAnswer 8 (λ a. a.taken ≡ 9)
  pub full_before_repeat : NoAnswer 4 (λ a. a.taken ≡ 10)
  -- another number than 0 where all is taken in, and than 12 in P11
  pub refused_for_nothing : NoAnswer 8 (λ a. a.refusal ≡ 0 → ⊥)
  pub refused_for_another : NoAnswer 3 (λ a. a.refusal ≡ refusal_no EdgesFull → ⊥)
  -- more records than the file has
  pub more_than_the_file : NoAnswer 8 (λ a. a.taken ≡ 12)
  -- document 02, 2.3: the hit not counted; edges counted from the oldest to the hit; all edges in spite of a hit; any number but 11. In P11 the
  -- refused event counted too. The execves of `execves` counted
  pub hit_not_counted : NoAnswer 8 (λ a. a.tried ≡ 8)
  pub tried_from_the_oldest : NoAnswer 8 (λ a. a.tried ≡ 12)
  pub all_tried : NoAnswer 8 (λ a. a.tried ≡ 14)
  pub tried_free : NoAnswer 8 (λ a. a.tried ≡ 11 → ⊥)
  pub refused_tried : NoAnswer 3 (λ a. a.tried ≡ 9)
  pub execves_tried : (t : Tables) (file : List ℕ) (a : BatchAnswer) → a.tried ≡ 2 → Answered [] t file execves a → ⊥
  -- The same events accepted and none kept at 6, as when no edge is kept: 2 gains 3 by it
  pub gain_dropped : (hs : List Item) → accepted hs ≡ accepted (items_of worked_plain) → ((e : Event) → Memᴰ e (kept_events hs) → e.time ≡ 6 → ⊥)
      → GainsAreKept hs → ⊥
  -- the writer refused though the output has the 104 bytes of the log
  pub log_always_refused : (c : Counts) (t : Tables) (out : List ℕ) (k : KeptLog) → 104 ≤ length out → (k.answer.refusal ≡ 0 → ⊥)
      → LogAgrees (worked_calls 8) c t out k → ⊥
  -- the kept log without its events, or refused, or another number of its eight records taken in
  pub log_of_no_event : (b : Batched) → b.counts.edges ≡ 0 → TakenAgainClaim b → ⊥
  pub log_refused : (b : Batched) → (b.answer.refusal ≡ 0 → ⊥) → TakenAgainClaim b → ⊥
  pub log_taken_free : (b : Batched) → (b.answer.taken ≡ 8 → ⊥) → TakenAgainClaim b → ⊥
  -- a count that is not 1, a last time that is not the edge's own
  pub log_counts_kept : (b : Batched) → ((edge_at b.tables.edges 0).count ≡ 1 → ⊥) → TakenAgainClaim b → ⊥
  pub log_lasts_kept : (b : Batched) → ((edge_at b.tables.edges 0).last ≡ (edge_at b.tables.edges 0).time → ⊥) → TakenAgainClaim b → ⊥
  -- the trail that took the log in gives another count than 4 in P4
  pub log_other_trace : (b : Batched) → ((backward_of b.counts b.tables 2 6 (replicate 6 9) (replicate 5 9)).answer.count ≡ 4 → ⊥)
      → TakenAgainClaim b → ⊥
  -- document 02, 2.4: the report not signed, the study signed in its place; its latest version lost; the signature counted as accepted; the last time moved
  pub signature_lost : NoSigned (λ c t. (entity_at t.entities 2).sort ≡ 0)
  pub other_signed : NoSigned (λ c t. (entity_at t.entities 0).sort ≡ 2)
  pub latest_lost : NoSigned (λ c t. ((entity_at t.entities 2).latest.0 ≡ 2 → ⊥))
  pub signature_accepted : NoSigned (λ c t. c.accepted ≡ 8)
  pub last_moved : NoSigned (λ c t. (c.last ≡ 7 → ⊥))
  -- a write into the signed report, or a second signature, in the plain list
  pub written_after : (c : Counts) (t : Tables) → Holds (report_written ∷ worked_signed) c t → ⊥
  pub signed_twice : (c : Counts) (t : Tables) → Holds (signature_record 2 ∷ worked_signed) c t → ⊥
  -- the signature refused or not counted; that write refused with another number than 17
  pub signature_refused : NoSignedAnswer [] (λ a. (a.refusal ≡ 0 → ⊥))
  pub signature_not_taken : NoSignedAnswer [] (λ a. a.taken ≡ 11)
  pub write_not_refused : NoSignedAnswer (event 2 1 2 8) (λ a. (a.refusal ≡ refusal_no Signed → ⊥))
  -- the log of the signed trail, taken in again: the report not signed; the signature not counted
  pub log_signature_lost : NoSignedLog (λ b. (entity_at b.tables.entities 2).sort ≡ 0)
  pub log_signature_not_taken : NoSignedLog (λ b. b.answer.taken ≡ 8)
