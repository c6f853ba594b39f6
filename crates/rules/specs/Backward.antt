-- Document 01, "Traces": backward from v at t.
use Rattle.std.specs.Prelude.{ℕ, zero, suc, ◌≤◌, ◌<◌, ◌≡◌, Bool, ◌||◌, not, cond, List, [], ◌∷◌, ◌++◌, length, eqb, leb, ltb}
use Rattle.refusals.specs.declared.Refusal.TheVariants.{Unsound, Undeclared, BufferShort}
use Rattle.refusals.specs.Refusals.{Check, check, first_of, number_of}
use Rattle.rows.specs.declared.Counts.{Counts}
use Rattle.rows.specs.declared.VersionRow.{VersionRow}
use Rattle.rows.specs.declared.EdgeRow.{EdgeRow}
use Rattle.rules.specs.declared.BackwardAnswer.{BackwardAnswer}
use Rattle.rules.specs.Trail.{Tables, capacity_of, Trail, trail_of, none}
use Rattle.rules.specs.Sound.{is_sound}
use Rattle.rules.specs.Batch.{if_refused}
use Rattle.rules.specs.Start.{start_of}
use Rattle.rules.specs.Marks.{Arc, arc, closed, marks_below, ones, overlaid}

-- The marked versions, where s is v's start version. "Backward from v at t marks v's start version, then follows, from
-- that version, entering edges with time ≤ t and its previous; from every other marked version, all entering edges and
-- its previous."
pub data BackwardMarks (T : Trail) (s t : ℕ) : ℕ → Type 0 where
  start : {a : ℕ} → a ≡ s → BackwardMarks T s t a
  into_start : (k : ℕ) {a : ℕ} → k < T.counts.edges → (T.edge k).to.0 ≡ s → (T.edge k).time ≤ t → a ≡ (T.edge k).from.0 → BackwardMarks T s t a
  into_other : (k : ℕ) {a b : ℕ} → BackwardMarks T s t b → (b ≡ s → ⊥) → k < T.counts.edges → (T.edge k).to.0 ≡ b → a ≡ (T.edge k).from.0
      → BackwardMarks T s t a
  previous : {a b : ℕ} → BackwardMarks T s t b → ((T.version b).previous.0 ≡ none → ⊥) → a ≡ (T.version b).previous.0 → BackwardMarks T s t a

-- The same, computed

-- into the start version s with time ≤ t alone, into any other always
unfoldable pub is_followed : ℕ → ℕ → EdgeRow → Bool
is_followed s t e = not (eqb e.to.0 s) || leb e.time t

-- of the first n edges, and of the steps of the first n versions to their previous
unfoldable pub edges_back : (ℕ → EdgeRow) → ℕ → ℕ → ℕ → List Arc
edges_back E s t zero = []
edges_back E s t (suc k) = cond (is_followed s t (E k)) (arc (E k).to.0 (E k).from.0 ∷ edges_back E s t k) (edges_back E s t k)

unfoldable pub steps_back : (ℕ → VersionRow) → ℕ → List Arc
steps_back W zero = []
steps_back W (suc k) = cond (eqb (W k).previous.0 none) (steps_back W k) (arc k (W k).previous.0 ∷ steps_back W k)

unfoldable pub backward_arcs : Trail → ℕ → ℕ → List Arc
backward_arcs T s t = edges_back T.edge s t T.counts.edges ++ steps_back T.version T.counts.versions

-- "The work buffer gets 1 or 0 for each version, marked or not"
unfoldable pub backward_work : Trail → ℕ → ℕ → List ℕ
backward_work T v t = closed T.counts.versions (backward_arcs T (start_of T v t) t) (start_of T v t ∷ [])

unfoldable pub backward_entities : Trail → ℕ → ℕ → List ℕ
backward_entities T v t = marks_below T.version (backward_work T v t) T.counts.versions T.counts.entities

-- 5: "Entity not declared", where n are. Of a list, "One undeclared member gives 5" (document 02, 2.2)
abbrev pub undeclared_checks : ℕ → List ℕ → List Check
undeclared_checks n [] = []
undeclared_checks n (x ∷ xs) = check (leb n x) Undeclared ∷ undeclared_checks n xs

-- 14: "Mark or work buffer shorter than its count."
abbrev pub buffer_checks : Counts → List ℕ → List ℕ → List Check
buffer_checks c work marks = check (ltb (length work) c.versions) BufferShort ∷ check (ltb (length marks) c.entities) BufferShort ∷ []

-- a trace of the entities of the list: 5, 14
abbrev pub trace_refusals : Counts → List ℕ → List ℕ → List ℕ → List Check
trace_refusals c xs work marks = undeclared_checks c.entities xs ++ buffer_checks c work marks

-- "A trace checks 16, 5, 14."
unfoldable pub trace_checks : Counts → Tables → List ℕ → List ℕ → List ℕ → List Check
trace_checks c t xs work marks = check (not (is_sound (capacity_of t) (trail_of c t))) Unsound ∷ trace_refusals c xs work marks

-- The call: its answer, and the buffers that it leaves. "A refused trace .. returns count, intake and length 0 and
-- writes nothing."

pub record BackwardTrace : Type 0 where
  pub answer : BackwardAnswer
  pub work : List ℕ
  pub marks : List ℕ

abbrev pub backward_trace : BackwardAnswer → List ℕ → List ℕ → BackwardTrace
backward_trace a work marks = record { answer = a; work = work; marks = marks }

unfoldable pub backward_of : Counts → Tables → ℕ → ℕ → List ℕ → List ℕ → BackwardTrace
backward_of c t v time work marks =
    if_refused (first_of (trace_checks c t (v ∷ []) work marks))
    (backward_trace (record { refusal = number_of (first_of (trace_checks c t (v ∷ []) work marks)); count = 0 }) work marks)
    (backward_trace (record { refusal = 0; count = ones (backward_entities (trail_of c t) v time) })
    (overlaid (backward_work (trail_of c t) v time) work)
    (overlaid (backward_entities (trail_of c t) v time) marks))
