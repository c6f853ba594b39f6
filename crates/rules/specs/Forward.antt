-- Document 01, "Traces": forward from u at t. Document 02, 2.2: "Forward should take a list of entity numbers and one time, and mark
-- what any of them marks alone."
use Rattle.std.specs.Prelude.{ℕ, zero, suc, ◌<◌, ◌≡◌, cond, List, [], ◌∷◌, ◌++◌, map, eqb}
use Rattle.refusals.specs.Refusals.{first_of, number_of}
use Rattle.rows.specs.declared.Counts.{Counts}
use Rattle.rows.specs.declared.VersionRow.{VersionRow}
use Rattle.rows.specs.declared.EdgeRow.{EdgeRow}
use Rattle.rules.specs.declared.ForwardAnswer.{ForwardAnswer}
use Rattle.rules.specs.Trail.{Tables, Trail, trail_of, none}
use Rattle.rules.specs.Batch.{if_refused}
use Rattle.rules.specs.Start.{StartVersion, start_of, IsIntake, intake_of}
use Rattle.rules.specs.Marks.{Arc, arc, closed, marks_below, ones, overlaid}
use Rattle.rules.specs.Backward.{trace_checks}
use Rattle.rules.specs.Members.{earliest}

-- The marked versions, where s is u's start version. "Forward from u at t marks u's start version, then all versions
-- reached by leaving edges and by going from a version to each one whose previous it is."
pub data ForwardMarks (T : Trail) (s : ℕ) : ℕ → Type 0 where
  start : {b : ℕ} → b ≡ s → ForwardMarks T s b
  leaving : (k : ℕ) {b : ℕ} → k < T.counts.edges → ForwardMarks T s (T.edge k).from.0 → b ≡ (T.edge k).to.0 → ForwardMarks T s b
  next : {a b : ℕ} → ForwardMarks T s a → b < T.counts.versions → ((T.version b).previous.0 ≡ none → ⊥) → a ≡ (T.version b).previous.0
      → ForwardMarks T s b

-- u alone at t marks version w, and gives the intake i
abbrev pub MarkedFrom : Trail → ℕ → ℕ → ℕ → Type 0
MarkedFrom T t u w = (s : ℕ) × StartVersion T u t s × ForwardMarks T s w

abbrev pub IntakeFrom : Trail → ℕ → ℕ → ℕ → Type 0
IntakeFrom T t u i = (s : ℕ) × StartVersion T u t s × IsIntake T s t i

-- The same, computed

unfoldable pub edges_on : (ℕ → EdgeRow) → ℕ → List Arc
edges_on E zero = []
edges_on E (suc k) = arc (E k).from.0 (E k).to.0 ∷ edges_on E k

unfoldable pub steps_on : (ℕ → VersionRow) → ℕ → List Arc
steps_on W zero = []
steps_on W (suc k) = cond (eqb (W k).previous.0 none) (steps_on W k) (arc (W k).previous.0 k ∷ steps_on W k)

unfoldable pub forward_arcs : Trail → List Arc
forward_arcs T = edges_on T.edge T.counts.edges ++ steps_on T.version T.counts.versions

-- from the start version of each member
abbrev pub starts_of : Trail → List ℕ → ℕ → List ℕ
starts_of T us t = map (λ u. start_of T u t) us

unfoldable pub forward_work : Trail → List ℕ → ℕ → List ℕ
forward_work T us t = closed T.counts.versions (forward_arcs T) (starts_of T us t)

unfoldable pub forward_entities : Trail → List ℕ → ℕ → List ℕ
forward_entities T us t = marks_below T.version (forward_work T us t) T.counts.versions T.counts.entities

-- "It also gives the intake"; of a list "the intake given is the earliest of the members', 0 for an empty list"
unfoldable pub forward_intake : Trail → List ℕ → ℕ → ℕ
forward_intake T us t = earliest (map (λ u. intake_of T (start_of T u t) t) us)

-- The call

pub record ForwardTrace : Type 0 where
  pub answer : ForwardAnswer
  pub work : List ℕ
  pub marks : List ℕ

abbrev pub forward_trace : ForwardAnswer → List ℕ → List ℕ → ForwardTrace
forward_trace a work marks = record { answer = a; work = work; marks = marks }

unfoldable pub forward_of : Counts → Tables → List ℕ → ℕ → List ℕ → List ℕ → ForwardTrace
forward_of c t us time work marks =
    if_refused (first_of (trace_checks c t us work marks))
    (forward_trace (record { refusal = number_of (first_of (trace_checks c t us work marks)); count = 0; intake = 0 }) work marks)
    (forward_trace (record { refusal = 0; count = ones (forward_entities (trail_of c t) us time); intake = forward_intake (trail_of c t) us time })
    (overlaid (forward_work (trail_of c t) us time) work)
    (overlaid (forward_entities (trail_of c t) us time) marks))
