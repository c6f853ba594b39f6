-- The answer and the buffers of a forward trace are those of documents 01 and 02.
use Rattle.std.specs.Prelude.{Ok}
use Prim.Native.Nat.{ℕ}
use mathlib.Core.Path.{◌≡◌, sym, ◌∙◌, ap}
use mathlib.Core.List.{List, ◌++◌}
use lib.ListN.{length, take, drop}
use lib.Seq.{length-take-le}
use Rattle.refusals.specs.Refusals.{Checked}
use Rattle.refusals.specs.Refusals.{first_of}
use Rattle.rows.specs.declared.Counts.{Counts}
use Rattle.rules.specs.Trail.{Trail, tables, trail_of}
use Rattle.rules.specs.Marks.{seeded}
use Rattle.rules.specs.Backward.{trace_checks}
use Rattle.rules.specs.Forward.{starts_of, forward_work, forward_entities, forward_intake, forward_of, forward_trace}
use Rattle.closure.proofs.Forward.{length-forward_work}
use Rattle.closure.proofs.Checked.{passed_rows, passed_entities, marks-fit}
use Rattle.closure.proofs.TraceCalls.{forward_of_passed}
use Rattle.passes.specs.TraceArcs.{marked_on}
use Rattle.marks.specs.Owners.{EntitiesMarked}
use Rattle.intake.specs.Traceable.{Traceable}
use Rattle.trace.proofs.OnMarks.{work_on}
use Rattle.trace.proofs.Buffers.{left_work, left-marks, over_marks}

pub versions_marked : (T : Trail) (us : List ℕ) (t : ℕ) → Traceable T us → (m₀ m₁ m m' : List ℕ) → T.counts.versions ≡ length m₀
    → length m₁ ≡ length m₀ → m ≡ seeded (length m₁) (starts_of T us t) → m' ≡ marked_on T m → m' ≡ forward_work T us t
versions_marked T us t p m₀ m₁ m m' l k q z = z ∙ ap (marked_on T) (q ∙ ap (λ n. seeded n (starts_of T us t)) (k ∙ sym l)) ∙ work_on T p.rows us t p.declared

module _ (c : Counts) (es vs ds us : List ℕ) (t : ℕ) (work marks : List ℕ) where
  abbrev checked : Checked
  checked = first_of (trace_checks c (tables es vs ds) us work marks)

  abbrev T : Trail
  T = trail_of c (tables es vs ds)

  module _ (p : checked ≡ Ok tt) where
    pub traceable : Traceable T us
    traceable = record {
      rows = passed_rows c (tables es vs ds) us work marks p;
      declared = passed_entities c (tables es vs ds) us work marks p;
    }

    pub forward_passed : (part seen marks' : List ℕ) (n i : ℕ) → i ≡ forward_intake T us t → part ≡ forward_work T us t → length seen ≡ length (take c.entities marks)
        → EntitiesMarked T (take c.versions (part ++ drop c.versions work)) (seen ++ drop c.entities marks) n marks'
        → forward_trace (record { refusal = 0; count = n; intake = i }) (part ++ drop c.versions work) marks' ≡ forward_of c (tables es vs ds) us t work marks
    unfolding forward_entities
    forward_passed part seen marks' n i o v l q =
        let k = length-forward_work T us t in
        let w = left_work T (forward_work T us t) work k part v in
        let m = over_marks T (forward_work T us t) seen marks marks' n (l ∙ length-take-le c.entities marks (marks-fit c (tables es vs ds) us work marks p))
        (left-marks T (forward_work T us t) work k part v (seen ++ drop c.entities marks) marks' n q) in
        (λ x. forward_trace (record { refusal = 0; count = m.count x; intake = o x }) (w x) (m.marks x)) ∙ sym (forward_of_passed c (tables es vs ds) us t work marks p)
