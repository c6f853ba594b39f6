-- Demand 2's round trip: the kept log, taken into a fresh trail with as many rows, yields the same entities, kept events and
-- traces. Document 01: "Version numbers may differ after it is taken in again; work buffers are not compared then." Document 02,
-- 2.4: "Regrown trails have the same signatures."
use Rattle.std.specs.Prelude.{ℕ, ◌+◌, ◌<◌, ◌≡◌, cond, List, length, take, ltb}
use Rattle.refusals.specs.declared.Refusal.TheVariants.{OutputShort}
use Rattle.refusals.specs.Refusals.{refusal_no}
use Rattle.rows.specs.declared.Counts.{Counts}
use Rattle.rows.specs.Rows.{entity_at, edge_at}
use Rattle.rules.specs.Trail.{Tables, capacity_of, Trail, trail_of, fresh_counts}
use Rattle.rules.specs.Batch.{Batched, batch_of}
use Rattle.rules.specs.Backward.{backward_of}
use Rattle.rules.specs.Forward.{forward_of}
use Rattle.rules.specs.KeptLog.{event_record, signed_below, log_bytes, KeptLog, kept_log_of}
use Rattle.rules.specs.PlainList.{worked}
use Rattle.rules.specs.Calls.{Call, EnoughRows, plain_after}
use Rattle.agreement.specs.Left.{LeftBy}

-- the same entities, signatures (a sort tells whether an entity is signed) and kept events: those of U are those of T
pub record SameTrail (T U : Trail) : Type 0 where
  pub entities : U.counts.entities ≡ T.counts.entities
  pub sorts : (x : ℕ) → x < T.counts.entities → (U.entity x).sort ≡ (T.entity x).sort
  pub edges : U.counts.edges ≡ T.counts.edges
  pub events : (k : ℕ) → k < T.counts.edges → event_record U k ≡ event_record T k

-- the same traces and kept log, whatever the calls are lent besides: the numbers that they return, the mark buffer, the output
pub record SameCalls (c : Counts) (t : Tables) (c' : Counts) (t' : Tables) : Type 0 where
  pub backward_answer : (v time : ℕ) (work marks : List ℕ) → (backward_of c' t' v time work marks).answer ≡ (backward_of c t v time work marks).answer
  pub backward_marks : (v time : ℕ) (work marks : List ℕ) → (backward_of c' t' v time work marks).marks ≡ (backward_of c t v time work marks).marks
  pub forward_answer : (us : List ℕ) (time : ℕ) (work marks : List ℕ) → (forward_of c' t' us time work marks).answer ≡ (forward_of c t us time work marks).answer
  pub forward_marks : (us : List ℕ) (time : ℕ) (work marks : List ℕ) → (forward_of c' t' us time work marks).marks ≡ (forward_of c t us time work marks).marks
  pub log : (out : List ℕ) → kept_log_of c' t' out ≡ kept_log_of c t out

-- the batch takes in every record of the log, and the trail that it leaves is the same, but for counts and last times of edges
pub record TakenAgain (c : Counts) (t : Tables) (b : Batched) : Type 0 where
  pub refusal : b.answer.refusal ≡ 0
  pub taken : b.answer.taken ≡ c.entities + c.edges + signed_below (entity_at t.entities) c.entities
  pub same : SameTrail (trail_of c t) (trail_of b.counts b.tables)
  -- document 02, 2.1: "a trail regrown .. has counts of 1"; each edge stands for its own event alone
  pub counts_one : (k : ℕ) → k < c.edges → (edge_at b.tables.edges k).count ≡ 1
  pub lasts_own : (k : ℕ) → k < c.edges → (edge_at b.tables.edges k).last ≡ (edge_at b.tables.edges k).time
  pub calls : SameCalls c t b.counts b.tables

-- What a writer lent out returns and leaves after the calls cs: it is refused only with 15, if the output is shorter than the kept log
-- that the plain list gives; if it is not refused, and the last time is a 32-bit number, as in a counts record, it wrote a log that a
-- fresh trail takes in again, in tables that hold anything
pub record LogAgrees (cs : List Call) (c : Counts) (t : Tables) (out : List ℕ) (k : KeptLog) : Type 0 where
  pub refusal : k.answer.refusal ≡ cond (ltb (length out) (length (log_bytes (worked (plain_after cs))))) (refusal_no OutputShort) 0
  pub again : k.answer.refusal ≡ 0 → c.last < 4294967296 → (lent : Tables) → EnoughRows (capacity_of lent) c
      → TakenAgain c t (batch_of fresh_counts lent (take k.answer.length k.out))

-- after any list of calls, for a writer with any output
abbrev pub RoundTrip : Type 0
RoundTrip = (cs : List Call) (c : Counts) (t : Tables) → LeftBy cs c t → (out : List ℕ) → LogAgrees cs c t out (kept_log_of c t out)
