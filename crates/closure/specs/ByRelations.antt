-- Document 01, "Traces": what a trace call returns and leaves, said by the documents' checks and relations alone (`trace_checks`,
-- `StartVersion`, `BackwardMarks`, `ForwardMarks`, `IsIntake`, `OfAny`, `IsEarliest`), for every counts, tables, entities, time and
-- buffers lent.
-- `backward_of` and `forward_of` compute this and nothing else, so how they compute it need not be read.
use Rattle.std.specs.Prelude.{ℕ, ◌≤◌, ◌<◌, ◌≡◌, ◌⊎◌, ◌↔◌, length, get_or}
use mathlib.Core.List.{List, [], ◌∷◌, Memᴰ}
use Rattle.refusals.specs.Refusals.{first_of, number_of}
use Rattle.rows.specs.declared.Counts.{Counts}
use Rattle.rules.specs.Trail.{Tables, Trail, trail_of, owner_of}
use Rattle.rules.specs.Start.{StartVersion}
use Rattle.rules.specs.Backward.{BackwardMarks, trace_checks, BackwardTrace, backward_trace, backward_of}
use Rattle.rules.specs.Members.{OfAny, IsEarliest}
use Rattle.rules.specs.Forward.{MarkedFrom, IntakeFrom, ForwardTrace, forward_trace, forward_of}

-- What both traces share

-- a buffer as lent and as left, with marks for n numbers in it: 1 for each that M holds of, else 0, and every other byte as it was;
-- M holds of no other number
pub record MarksLeft (n : ℕ) (M : ℕ → Type 0) (lent left : List ℕ) : Type 0 where
  pub same_length : length left ≡ length lent
  pub bits : (k : ℕ) → k < n → (get_or left k 0 ≡ 0) ⊎ (get_or left k 0 ≡ 1)
  pub marked : (k : ℕ) → ((k < n) × (get_or left k 0 ≡ 1)) ↔ M k
  -- "Bytes past the counts are untouched."
  pub untouched : (k : ℕ) → n ≤ k → get_or left k 0 ≡ get_or lent k 0

-- each number is above those after it, so none stands twice
abbrev pub Descending : List ℕ → Type 0
Descending [] = Unit {0}
Descending (x ∷ xs) = ((y : ℕ) → Memᴰ y xs → y < x) × Descending xs

-- how many numbers M holds of: the length of a list that has each of them once and no other
pub record CountOf (M : ℕ → Type 0) (count : ℕ) : Type 0 where
  pub list : List ℕ
  pub once : Descending list
  pub has : (x : ℕ) → Memᴰ x list ↔ M x
  pub count_is : count ≡ length list

-- an "entity with a marked version", where M holds of the marked versions
abbrev pub HasMarkedVersion : Trail → (ℕ → Type 0) → ℕ → Type 0
HasMarkedVersion T M x = (w : ℕ) × M w × (owner_of T w ≡ x)

-- The buffers and the count of a trace, where M holds of the marked versions. "The work buffer gets 1 or 0 for each version, marked
-- or not; the mark buffer gets 1 for each entity with a marked version, else 0; the count is the number of ones in the mark buffer":
-- of the entities with a marked version.
pub record Marking (T : Trail) (M : ℕ → Type 0) (work marks work' marks' : List ℕ) (count : ℕ) : Type 0 where
  pub versions : MarksLeft T.counts.versions M work work'
  pub entities : MarksLeft T.counts.entities (HasMarkedVersion T M) marks marks'
  pub counted : CountOf (HasMarkedVersion T M) count

-- The calls

-- b is what a backward call on these returns and leaves. "A trace checks 16, 5, 14." "Each refusal is given when its condition is the
-- first to hold in this order, and never otherwise"; the number is "0 if none". "A refused trace .. returns count, intake and length 0
-- and writes nothing." Otherwise there is a start version s, and the marks are those from it.
pub record IsBackwardTrace (c : Counts) (t : Tables) (v time : ℕ) (work marks : List ℕ) (b : BackwardTrace) : Type 0 where
  pub refusal : b.answer.refusal ≡ number_of (first_of (trace_checks c t (v ∷ []) work marks))
  pub refused : (b.answer.refusal ≡ 0 → ⊥) → b ≡ backward_trace (record { refusal = b.answer.refusal; count = 0 }) work marks
  pub traced : b.answer.refusal ≡ 0 → (s : ℕ) × StartVersion (trail_of c t) v time s
      × Marking (trail_of c t) (BackwardMarks (trail_of c t) s time) work marks b.work b.marks b.answer.count

-- f is what a forward call on these returns and leaves. Document 02, 2.2: it marks "what any of them marks alone. .. an empty list marks
-- nothing. The count is of the union; the intake given is the earliest of the members', 0 for an empty list." Each member has a start
-- version.
pub record IsForwardTrace (c : Counts) (t : Tables) (us : List ℕ) (time : ℕ) (work marks : List ℕ) (f : ForwardTrace) : Type 0 where
  pub refusal : f.answer.refusal ≡ number_of (first_of (trace_checks c t us work marks))
  pub refused : (f.answer.refusal ≡ 0 → ⊥) → f ≡ forward_trace (record { refusal = f.answer.refusal; count = 0; intake = 0 }) work marks
  pub started : f.answer.refusal ≡ 0 → (u : ℕ) → Memᴰ u us → (s : ℕ) × StartVersion (trail_of c t) u time s
  pub traced : f.answer.refusal ≡ 0 → IsEarliest us (IntakeFrom (trail_of c t) time) f.answer.intake
      × Marking (trail_of c t) (OfAny us (MarkedFrom (trail_of c t) time)) work marks f.work f.marks f.answer.count

-- the calls as computed are these, and nothing else is
pub record TracesByRelations : Type 0 where
  pub backward : (c : Counts) (t : Tables) (v time : ℕ) (work marks : List ℕ) (b : BackwardTrace)
      → (b ≡ backward_of c t v time work marks) ↔ IsBackwardTrace c t v time work marks b
  pub forward : (c : Counts) (t : Tables) (us : List ℕ) (time : ℕ) (work marks : List ℕ) (f : ForwardTrace)
      → (f ≡ forward_of c t us time work marks) ↔ IsForwardTrace c t us time work marks f
