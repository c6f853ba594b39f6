-- Document 02, 2.5: two events in one tick. The times of what a list of calls takes in; document 01 as the special case in which they rise
-- strictly; and wrong answers in a tick, each of which contradicts demand 3. The proof is in proofs/Ticks.antt.
use Rattle.std.specs.Prelude.{ℕ, ◌≤◌, ◌<◌, ◌≡◌, List, [], ◌∷◌, get_or}
use Rattle.record.specs.declared.Event.{Event}
use Rattle.rules.specs.Paths.{CausalPath, All}
use Rattle.rules.specs.History.{Item, accepted, Reached}
use Rattle.rules.specs.PlainList.{worked, items_of}
use Rattle.rules.specs.Members.{OfAny}
use Rattle.rules.specs.Forward.{ForwardTrace}
use Rattle.rules.specs.Calls.{Call, AllLent, plain_after}
use Rattle.rules.specs.TickCases.{read_write, write_read, read_back, turns, plain_of}
use Rattle.causality.specs.Times.{Ordered, Strict, RisingFrom, ByTimes}
use Rattle.agreement.specs.Demand3.{ForwardAgrees}
use Rattle.agreement.specs.Refuted.{NoBackward, NoForward}

-- the events that a list of calls takes in, kept or dropped
abbrev pub items_after : List Call → List Item
items_after cs = items_of (plain_after cs)

-- a causal path through events at t or later
abbrev pub PathFrom : List Event → ℕ → ℕ → ℕ → Type 0
PathFrom es t x y = (p : CausalPath es x y) × All (λ e. t ≤ e.time) p.path

pub record Ticks : Type 0 where
  -- "earlier, or time 0, still gives 9": no accepted time is 0, and times do not fall in the order of acceptance, so not along a causal path
  pub positive : (cs : List Call) → AllLent cs → All (λ e. 1 ≤ e.time) (accepted (items_after cs))
  pub ordered : (cs : List Call) → AllLent cs → Ordered (accepted (items_after cs))
  pub along : (cs : List Call) → AllLent cs → (x y : ℕ) (p : CausalPath (accepted (items_after cs)) x y) → Ordered p.path
  -- document 01's words are these, in every list of calls whose accepted times rise strictly; and its "never less", of the marks
  pub special : (cs : List Call) → AllLent cs → Strict (accepted (items_after cs)) → ByTimes (items_after cs)
  pub special_never_less : (cs : List Call) → AllLent cs → Strict (accepted (items_after cs)) → (us : List ℕ) (time : ℕ) (work marks : List ℕ) (f : ForwardTrace)
      → ForwardAgrees (plain_after cs) us time work marks f → f.answer.refusal ≡ 0 → (y : ℕ) → OfAny us (RisingFrom (accepted (items_after cs)) time) y
      → (y < (worked (plain_after cs)).counts.entities) × (get_or f.marks y 0 ≡ 1)
  -- "never less than the full answer over events later than t"; over events at t or later it would be false: the stager reads the study and
  -- then writes it back, all at 1
  pub at_or_later : PathFrom (accepted (items_of (plain_of read_back))) 1 0 1 × (Reached 0 1 (items_of (plain_of read_back)) 1 → ⊥)
  -- the stager reads the study and then writes the report: the study left out of the report's trace, or the report of the study's
  pub pair_missed : NoBackward (plain_of read_write) 2 1 (λ b. get_or b.marks 0 0 ≡ 0)
  pub pair_missed_forward : NoForward (plain_of read_write) (0 ∷ []) 0 (λ f. get_or f.marks 2 0 ≡ 0)
  -- it writes the report and then reads the study: "an event never follows one accepted after it"
  pub follows_one_after : NoBackward (plain_of write_read) 2 1 (λ b. get_or b.marks 0 0 ≡ 1)
  pub follows_one_after_forward : NoForward (plain_of write_read) (0 ∷ []) 0 (λ f. get_or f.marks 2 0 ≡ 1)
  -- "Backward at t counts every event with time ≤ t", and none later
  pub before_the_tick : NoBackward (plain_of read_write) 2 0 (λ b. get_or b.marks 1 0 ≡ 1)
  -- "Forward starts just after the last kept intake with time ≤ t": not at the beginning of its tick, nor after its tick, nor after the first
  -- one of the tick; at 0 there is none yet
  pub from_the_tick : NoForward (plain_of read_back) (0 ∷ []) 1 (λ f. get_or f.marks 1 0 ≡ 1)
  pub after_the_tick : NoForward (plain_of read_write) (1 ∷ []) 1 (λ f. get_or f.marks 2 0 ≡ 0)
  pub first_of_the_tick : NoForward (plain_of turns) (0 ∷ []) 1 (λ f. get_or f.marks 1 0 ≡ 1)
  pub before_the_intake : NoForward (plain_of read_back) (0 ∷ []) 0 (λ f. get_or f.marks 1 0 ≡ 0)
