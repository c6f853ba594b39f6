-- The only answers that the claims allow for the worked list of calls. The computed answer agrees, by demands 2 and 3; two answers that
-- agree are the same; and the rows of the worked trail say what the computed one is.
use Prim.Native.Nat.{ℕ, ◌≤◌}
use native.Mathlib.Omega.{arith}
use mathlib.Core.Path.{◌≡◌, sym, ◌∙◌, ap}
use mathlib.Core.Bool.{Bool, cond}
use mathlib.Core.List.{List, []}
use lib.ListN.{length, get_or, replicate}
use lib.Dec.{ltb}
use borrow.Author.Tests.{le-ltb}
use Rattle.refusals.specs.declared.Refusal.TheVariants.{OutputShort}
use Rattle.refusals.specs.Refusals.{refusal_no, first_of, number_of}
use Rattle.refusals.proofs.Checks.{all_false_passed}
use Rattle.rows.specs.declared.Counts.{Counts}
use Rattle.rows.specs.declared.EntityRow.{EntityRow}
use Rattle.rows.specs.declared.VersionRow.{VersionRow}
use Rattle.rows.specs.declared.EdgeRow.{EdgeRow}
use Rattle.rows.specs.Rows.{entity_row, version_row, edge_row, entity_at, version_at, edge_at}
use Rattle.rules.specs.declared.BatchAnswer.{BatchAnswer}
use Rattle.rules.specs.declared.BackwardAnswer.{BackwardAnswer}
use Rattle.rules.specs.declared.ForwardAnswer.{ForwardAnswer}
use Rattle.rules.specs.Trail.{Tables, trail_of, counts, fresh_counts, none}
use Rattle.rules.specs.Backward.{buffer_checks, trace_refusals, BackwardTrace, backward_of}
use Rattle.rules.specs.Forward.{ForwardTrace}
use Rattle.rules.specs.KeptLog.{log_bytes, signed_in}
use Rattle.rules.specs.PlainList.{worked}
use Rattle.rules.specs.Calls.{plain_after}
use Rattle.rules.specs.Worked.{room, file, batch, backward, forward, WorkedTrail}
use Rattle.rules.proofs.Cases.{cases}
use Rattle.closure.specs.Arcs.{AllBelow}
use Rattle.closure.specs.Same.{SameRows}
use Rattle.closure.proofs.Checked.{declared_next}
use Rattle.kept_log.proofs.LogRecords.{length-log_bytes}
use Rattle.agreement.specs.Left.{LeftBy}
use Rattle.agreement.specs.Demand2.{Holds, Answered}
use Rattle.agreement.specs.Demand3.{BackwardAgrees, ForwardAgrees}
use Rattle.agreement.specs.Refuted.{SameMarks, worked_calls, worked_plain}
use Rattle.agreement.proofs.Left.{after-batch, leaving}
use Rattle.agreement.proofs.Demand2.{demand2}
use Rattle.agreement.proofs.Demand3.{next_backward, next_forward}
use Rattle.agreement.proofs.Determined.{determined}
use Rattle.agreement.proofs.WorkedEvents.{computed}
use Rattle.soundness.proofs.Counted.{signed_same}

pub rows : WorkedTrail
rows = cases.0

worked-left : LeftBy (worked_calls 8) (batch 8).counts (batch 8).tables
unfolding batch
worked-left = after-batch [] fresh_counts (room 8) (leaving.fresh (room 8)) (file 1)

-- Counts and tables

worked_holds : Holds worked_plain (batch 8).counts (batch 8).tables
worked_holds = demand2.holds (worked_calls 8) _ _ worked-left

module _ {c : Counts} {t : Tables} (h : Holds worked_plain c t) where
  abbrev same : (c ≡ (batch 8).counts) × SameRows (trail_of c t) (trail_of (batch 8).counts (batch 8).tables)
  same = determined.holds worked_plain c (batch 8).counts t (batch 8).tables h worked_holds

  counts_are : c ≡ counts 4 5 4 7 7
  counts_are = same.0 ∙ rows.p1_counts

  pub entities_are : c.entities ≡ 4
  entities_are = ap (λ (z : Counts). z.entities) counts_are

  pub versions_are : c.versions ≡ 5
  versions_are = ap (λ (z : Counts). z.versions) counts_are

  pub edges_are : c.edges ≡ 4
  edges_are = ap (λ (z : Counts). z.edges) counts_are

  pub accepted_are : c.accepted ≡ 7
  accepted_are = ap (λ (z : Counts). z.accepted) counts_are

  pub last_is : c.last ≡ 7
  last_is = ap (λ (z : Counts). z.last) counts_are

  pub stager_row : entity_at t.entities 1 ≡ entity_row 1 4
  stager_row = same.1.entity_rows 1 (omega (arith, entities_are)) ∙ ap (λ (l : List EntityRow). get_or l 1 (entity_row 0 0)) rows.p1_entities

  pub report_version : version_at t.versions 2 ≡ version_row 2 0 6 none
  report_version = same.1.version_rows 2 (omega (arith, versions_are)) ∙ ap (λ (l : List VersionRow). get_or l 2 (version_row 0 0 0 0)) rows.p1_versions

  pub edge_at_1 : edge_at t.edges 0 ≡ edge_row 0 1 1 1 2 3
  edge_at_1 = same.1.edge_rows 0 (omega (arith, edges_are)) ∙ ap (λ (l : List EdgeRow). get_or l 0 (edge_row 0 0 0 0 0 0)) rows.p1_edges

  pub edge_at_6 : edge_at t.edges 3 ≡ edge_row 4 2 2 6 1 6
  edge_at_6 = same.1.edge_rows 3 (omega (arith, edges_are)) ∙ ap (λ (l : List EdgeRow). get_or l 3 (edge_row 0 0 0 0 0 0)) rows.p1_edges

-- How many records a batch took in, lent n edge rows, and what it was refused for

pub answer_is : (n : ℕ) (a : BatchAnswer) → Answered [] (room n) (file 1) (plain_after (worked_calls n)) a → a ≡ (batch n).answer
unfolding batch
answer_is n a g = determined.answer [] (room n) (file 1) _ a _ g (demand2.answer [] fresh_counts (room n) (leaving.fresh (room n)) (file 1))

-- Traces

pub p4_count : (backward_of (batch 8).counts (batch 8).tables 2 6 (replicate 6 9) (replicate 5 9)).answer.count ≡ 4
unfolding backward
p4_count = ap (λ (a : BackwardAnswer). a.count) rows.p4.0

pub four : (worked worked_plain).counts.entities ≡ 4
four = ap (λ (c : Counts). c.entities) (sym worked_holds.counts) ∙ entities_are worked_holds

five : (worked worked_plain).counts.versions ≡ 5
five = ap (λ (c : Counts). c.versions) (sym worked_holds.counts) ∙ versions_are worked_holds

-- a trace of some of the four entities with buffers that are long enough is not refused
pub not_refused : (xs work marks : List ℕ) → AllBelow 4 xs → 5 ≤ length work → 4 ≤ length marks
    → number_of (first_of (trace_refusals (worked worked_plain).counts xs work marks)) ≡ 0
not_refused xs work marks l w m =
    let n = (worked worked_plain).counts in
    let cs = buffer_checks n work marks in
    ap number_of
    (declared_next n.entities cs xs (λ x i. omega (arith, four, l x i))
    ∙ all_false_passed cs (le-ltb (length work) n.versions (omega (arith, five)), (le-ltb (length marks) n.entities (omega (arith, four)), tt)))

-- none of the four is signed
pub unsigned-batch : signed_in (trail_of (batch 8).counts (batch 8).tables) ≡ 0
unsigned-batch =
    signed_same (trail_of (batch 8).counts (batch 8).tables) (worked worked_plain) (ap (λ (c : Counts). c.entities) (sym worked_holds.counts))
    (λ x l. ap (λ (r : EntityRow). r.sort) (worked_holds.entity_rows x (omega (arith, ap (λ (c : Counts). c.entities) worked_holds.counts))))
    ∙ computed.unsigned

-- a writer with an output of 104 bytes or more is not refused
pub log_not_refused : (out : List ℕ) → 104 ≤ length out → cond (ltb (length out) (length (log_bytes (worked worked_plain)))) (refusal_no OutputShort) 0 ≡ 0
log_not_refused out l =
    let n = (worked worked_plain).counts in
    let e : n.edges ≡ 4 = ap (λ (c : Counts). c.edges) (sym worked_holds.counts) ∙ edges_are worked_holds in
    ap (λ (b : Bool). cond b (refusal_no OutputShort) 0) (le-ltb (length out) (length (log_bytes (worked worked_plain))) (omega (arith, four, computed.unsigned, length-log_bytes (worked worked_plain))))

-- the same bytes for the four entities
marks_are : (marks : List ℕ) {marks' left : List ℕ} → SameMarks (worked worked_plain).counts.entities marks marks' → marks' ≡ left → SameMarks 4 marks left
marks_are marks s q x l = s x (omega (arith, four)) ∙ ap (λ (m : List ℕ). get_or m x 0) q

module _ {v time n : ℕ} {marks : List ℕ} (q : ((backward v time).answer ≡ record { refusal = 0; count = n }) × ((backward v time).marks ≡ marks)) where
  pub backward_right : BackwardAgrees worked_plain v time (replicate 6 9) (replicate 5 9) (backward v time)
  unfolding backward
  backward_right = next_backward worked-left v time _ _

  pub backward_is : {work lent : List ℕ} (b : BackwardTrace) → BackwardAgrees worked_plain v time work lent b → b.answer.refusal ≡ 0
      → SameMarks 4 b.marks marks × (b.answer.count ≡ n)
  backward_is b a z =
      let s = determined.backward worked_plain v time _ _ _ _ b (backward v time) a backward_right z (ap (λ (r : BackwardAnswer). r.refusal) q.0) in
      (marks_are b.marks s.0 q.1, s.1 ∙ ap (λ (r : BackwardAnswer). r.count) q.0)

module _ {us : List ℕ} {time n i : ℕ} {marks : List ℕ} (q : ((forward us time).answer ≡ record { refusal = 0; count = n; intake = i }) × ((forward us time).marks ≡ marks)) where
  forward_right : ForwardAgrees worked_plain us time (replicate 6 9) (replicate 5 9) (forward us time)
  unfolding forward
  forward_right = next_forward worked-left us time _ _

  pub forward_is : {work lent : List ℕ} (f : ForwardTrace) → ForwardAgrees worked_plain us time work lent f → f.answer.refusal ≡ 0
      → SameMarks 4 f.marks marks × (f.answer.count ≡ n) × (f.answer.intake ≡ i)
  forward_is f a z =
      let s = determined.forward worked_plain us time _ _ _ _ f (forward us time) a forward_right z (ap (λ (r : ForwardAnswer). r.refusal) q.0) in
      (marks_are f.marks s.0 q.1, s.1 ∙ ap (λ (r : ForwardAnswer). r.count) q.0, s.2 ∙ ap (λ (r : ForwardAnswer). r.intake) q.0)
