-- Document 01, "Traces": demand 3, a single claim about a list of calls. To be read beside that section; document 02, 2.5: "The traces agree
-- with the full list under that order", the order of acceptance.
-- The plain list of the calls, and with it the accepted and the kept events, is computed from the calls alone.
use Rattle.std.specs.Prelude.{ℕ, ◌<◌, ◌≡◌, ◌⊎◌, ◌↔◌, List, [], ◌∷◌, ◌++◌, get_or}
use Rattle.refusals.specs.Refusals.{first_of, number_of}
use Rattle.record.specs.declared.Event.{Event}
use Rattle.record.specs.declared.Record.{Record}
use Rattle.rules.specs.Paths.{PathBy, PathAfter, Gains}
use Rattle.rules.specs.History.{Item, dropped, accepted, intake_time, Reached}
use Rattle.rules.specs.PlainList.{worked, items_of}
use Rattle.rules.specs.Backward.{trace_refusals, BackwardTrace, backward_of}
use Rattle.rules.specs.Members.{OfAny, IsEarliest}
use Rattle.rules.specs.Forward.{ForwardTrace, forward_of}
use Rattle.rules.specs.Calls.{Call, batch, backward, forward, held_after, AllLent, plain_after}
use Rattle.closure.specs.ByRelations.{CountOf}

-- of n entities, each byte is 1 if M holds of it and else 0, and the count is of those that M holds of
pub record MarksAre (n : ℕ) (M : ℕ → Type 0) (marks : List ℕ) (count : ℕ) : Type 0 where
  pub bits : (x : ℕ) → x < n → (get_or marks x 0 ≡ 0) ⊎ (get_or marks x 0 ≡ 1)
  pub marked : (x : ℕ) → x < n → (get_or marks x 0 ≡ 1) ↔ M x
  pub counted : CountOf (λ x. (x < n) × M x) count

-- What a trace, lent work and marks after the records rs, returned and left. "In such a list a trace is refused only with 5 or 14": if, by
-- the plain list, an entity is not declared, or a buffer is shorter than its count.

-- Backward from v at a time: if not refused, exactly the entities with a causal path to v in by then are marked. Document 02, 2.5: "Backward
-- at t counts every event with time ≤ t."
pub record BackwardAgrees (rs : List Record) (v time : ℕ) (work marks : List ℕ) (b : BackwardTrace) : Type 0 where
  pub refusal : b.answer.refusal ≡ number_of (first_of (trace_refusals (worked rs).counts (v ∷ []) work marks))
  pub marks_are : b.answer.refusal ≡ 0 → MarksAre (worked rs).counts.entities (λ x. PathBy (accepted (items_of rs)) time x v) b.marks b.answer.count

-- Forward from the members of a list at a time: if not refused, exactly the entities reached from one of them are marked, from each by its own
-- latest kept intake at or before the time, or from time 0 if it has none; the intake given is the earliest of the members', where a member's
-- is the time of that kept intake, 0 if it has none, and 0 for an empty list; never less than the full answers over events later than the
-- time, taken together. Document 02, 2.2: "The full-log statement holds for the list too."
pub record ForwardAgrees (rs : List Record) (us : List ℕ) (time : ℕ) (work marks : List ℕ) (f : ForwardTrace) : Type 0 where
  pub refusal : f.answer.refusal ≡ number_of (first_of (trace_refusals (worked rs).counts us work marks))
  pub marks_are : f.answer.refusal ≡ 0
      → MarksAre (worked rs).counts.entities (OfAny us (λ u. Reached u time (items_of rs))) f.marks f.answer.count
  pub intake_is : f.answer.refusal ≡ 0 → IsEarliest us (λ u i. i ≡ intake_time u time (items_of rs)) f.answer.intake
  pub never_less : f.answer.refusal ≡ 0 → (y : ℕ) → OfAny us (PathAfter (accepted (items_of rs)) time) y
      → (y < (worked rs).counts.entities) × (get_or f.marks y 0 ≡ 1)

-- each trace of the list agrees with the records taken in before it
abbrev pub TracesAgree : List Call → Type 0
TracesAgree [] = Unit {0}
TracesAgree (batch t file ∷ cs) = TracesAgree cs
TracesAgree (backward t v time work marks ∷ cs) =
    BackwardAgrees (plain_after cs) v time work marks (backward_of (held_after cs).counts t v time work marks) × TracesAgree cs
TracesAgree (forward t us time work marks ∷ cs) =
    ForwardAgrees (plain_after cs) us time work marks (forward_of (held_after cs).counts t us time work marks) × TracesAgree cs

-- every event by which an entity gained an ancestor is a kept intake of it: by a dropped one none did
abbrev pub GainsAreKept : List Item → Type 0
GainsAreKept hs = (later earlier : List Item) (e : Event) (x : ℕ) → hs ≡ later ++ (dropped e ∷ earlier) → Gains (accepted earlier) e x → ⊥

-- "All this is a single claim about the list and not one for each call."
abbrev pub Demand3 : Type 0
Demand3 = (cs : List Call) → AllLent cs → TracesAgree cs × GainsAreKept (items_of (plain_after cs))
