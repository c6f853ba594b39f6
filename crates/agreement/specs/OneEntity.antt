-- The forward trace of one entity (document 01, "Traces"; document 02, 2.5), as a corollary of what is claimed of lists of entities (2.2).
use Rattle.std.specs.Prelude.{ℕ, ◌<◌, ◌≡◌, ◌↔◌, List, [], ◌∷◌, get_or}
use Rattle.refusals.specs.Refusals.{first_of, number_of}
use Rattle.rows.specs.declared.Counts.{Counts}
use Rattle.record.specs.declared.Record.{Record}
use Rattle.rules.specs.Trail.{Tables}
use Rattle.rules.specs.Paths.{PathAfter}
use Rattle.rules.specs.History.{accepted, intake_time, Reached}
use Rattle.rules.specs.PlainList.{worked, items_of}
use Rattle.rules.specs.Backward.{trace_refusals}
use Rattle.rules.specs.Forward.{ForwardTrace, forward_of}
use Rattle.rules.specs.Calls.{Call, plain_after}
use Rattle.agreement.specs.Left.{LeftBy}
use Rattle.agreement.specs.Demand3.{MarksAre, ForwardAgrees}

-- Forward from u at a time: if not refused, exactly those reached from the latest kept intake at or before it, or from time 0 if there is none;
-- the intake given is that one's time, 0 if there is none; never less than the full answer over events later than the time
pub record OneAgrees (rs : List Record) (u time : ℕ) (work marks : List ℕ) (f : ForwardTrace) : Type 0 where
  pub refusal : f.answer.refusal ≡ number_of (first_of (trace_refusals (worked rs).counts (u ∷ []) work marks))
  pub marks_are : f.answer.refusal ≡ 0 → MarksAre (worked rs).counts.entities (Reached u time (items_of rs)) f.marks f.answer.count
  pub intake_is : f.answer.refusal ≡ 0 → f.answer.intake ≡ intake_time u time (items_of rs)
  pub never_less : f.answer.refusal ≡ 0 → (y : ℕ) → PathAfter (accepted (items_of rs)) time u y
      → (y < (worked rs).counts.entities) × (get_or f.marks y 0 ≡ 1)

pub record OneEntity : Type 0 where
  -- of the list of u alone the claim says this, and no less
  pub of_one : (rs : List Record) (u time : ℕ) (work marks : List ℕ) (f : ForwardTrace)
      → ForwardAgrees rs (u ∷ []) time work marks f ↔ OneAgrees rs u time work marks f
  -- after any list of calls
  pub after : (cs : List Call) (c : Counts) (t : Tables) → LeftBy cs c t → (u time : ℕ) (work marks : List ℕ)
      → OneAgrees (plain_after cs) u time work marks (forward_of c t (u ∷ []) time work marks)
