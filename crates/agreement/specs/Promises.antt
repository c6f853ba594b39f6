-- What the promise of each public call carries beside its equation: what demands 2 and 3 claim of the call, for every list of calls that
-- leaves what it was lent. b, f and k are what the call returned and left.
use Rattle.std.specs.Prelude.{ℕ, List, ◌∷◌}
use Rattle.rows.specs.declared.Counts.{Counts}
use Rattle.rules.specs.Trail.{Tables}
use Rattle.rules.specs.Batch.{Batched}
use Rattle.rules.specs.Backward.{BackwardTrace}
use Rattle.rules.specs.Forward.{ForwardTrace}
use Rattle.rules.specs.KeptLog.{KeptLog}
use Rattle.rules.specs.Calls.{Call, batch, plain_after}
use Rattle.soundness.specs.Frame.{Framed}
use Rattle.closure.specs.ByRelations.{IsBackwardTrace, IsForwardTrace}
use Rattle.agreement.specs.Left.{LeftBy}
use Rattle.agreement.specs.Demand2.{Holds, Answered}
use Rattle.agreement.specs.Demand3.{BackwardAgrees, ForwardAgrees}
use Rattle.agreement.specs.RoundTrip.{LogAgrees}

-- the calls with this batch added leave what it left; its answer is demand 2's; what it left holds the records taken in
pub record BatchPromise (c : Counts) (t : Tables) (file : List ℕ) (b : Batched) : Type 0 where
  pub framed : Framed c t b
  pub goes_on : (cs : List Call) → LeftBy cs c t → LeftBy (batch t file ∷ cs) b.counts b.tables
  pub answer : (cs : List Call) → LeftBy cs c t → Answered (plain_after cs) t file (plain_after (batch t file ∷ cs)) b.answer
  pub holds : (cs : List Call) → LeftBy cs c t → Holds (plain_after (batch t file ∷ cs)) b.counts b.tables

-- the trace is the one that the documents' relations say, and agrees with the full list
pub record BackwardPromise (c : Counts) (t : Tables) (v time : ℕ) (work marks : List ℕ) (b : BackwardTrace) : Type 0 where
  pub traced : IsBackwardTrace c t v time work marks b
  pub agrees : (cs : List Call) → LeftBy cs c t → BackwardAgrees (plain_after cs) v time work marks b

pub record ForwardPromise (c : Counts) (t : Tables) (us : List ℕ) (time : ℕ) (work marks : List ℕ) (f : ForwardTrace) : Type 0 where
  pub traced : IsForwardTrace c t us time work marks f
  pub agrees : (cs : List Call) → LeftBy cs c t → ForwardAgrees (plain_after cs) us time work marks f

-- the log that was written is taken in again
abbrev pub LogPromise : Counts → Tables → List ℕ → KeptLog → Type 0
LogPromise c t out k = (cs : List Call) → LeftBy cs c t → LogAgrees cs c t out k
