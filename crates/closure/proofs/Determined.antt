-- Document 01's relations leave a trace call one answer.
use Prim.Native.Nat.{ℕ}
use native.Mathlib.Decide.{ℕ_discrete}
use mathlib.Core.Path.{◌≡◌, sym, ◌∙◌, subst}
use mathlib.Core.List.{List}
use Rattle.rows.specs.declared.Counts.{Counts}
use Rattle.rules.specs.Trail.{Tables, trail_of}
use Rattle.rules.specs.Backward.{BackwardMarks, BackwardTrace}
use Rattle.rules.specs.Forward.{ForwardTrace}
use Rattle.rules.proofs.Start.{start_one}
use Rattle.rules.proofs.Members.{earliest_one}
use Rattle.closure.specs.ByRelations.{Marking, IsBackwardTrace, IsForwardTrace}
use Rattle.closure.proofs.Marking.{marking_one}
use Rattle.closure.proofs.Traced.{BackwardTraced, ForwardTraced}

module _ (c : Counts) (t : Tables) (x time : ℕ) (work marks : List ℕ) where
  module _ (a b : BackwardTrace) (p : IsBackwardTrace c t x time work marks a) (q : IsBackwardTrace c t x time work marks b) where
    backward_number : a.answer.refusal ≡ b.answer.refusal
    backward_number = p.refusal ∙ sym q.refusal

    backward_traced_one : BackwardTraced (trail_of c t) x time work marks a → BackwardTraced (trail_of c t) x time work marks b → a ≡ b
    backward_traced_one f g =
        let m = subst (λ s. Marking (trail_of c t) (BackwardMarks (trail_of c t) s time) work marks a.work a.marks a.answer.count) (start_one f.1 g.1) f.2 in
        let e = marking_one m g.2 in
        λ i. record { answer = record { refusal = backward_number i; count = e.2 i }; work = e.0 i; marks = e.1 i }

    pub backward_one : a ≡ b
    backward_one = go (ℕ_discrete a.answer.refusal 0)
      where
        go : Dec (a.answer.refusal ≡ 0) → a ≡ b
        go (yes z) = backward_traced_one (p.traced z) (q.traced (sym backward_number ∙ z))
        go (no z) =
            p.refused z
            ∙ (λ i. record { answer = record { refusal = backward_number i; count = 0 }; work = work; marks = marks })
            ∙ sym (q.refused (λ y. z (backward_number ∙ y)))

module _ (c : Counts) (t : Tables) (us : List ℕ) (time : ℕ) (work marks : List ℕ) where
  module _ (a b : ForwardTrace) (p : IsForwardTrace c t us time work marks a) (q : IsForwardTrace c t us time work marks b) where
    forward_number : a.answer.refusal ≡ b.answer.refusal
    forward_number = p.refusal ∙ sym q.refusal

    forward_traced_one : ForwardTraced (trail_of c t) us time work marks a → ForwardTraced (trail_of c t) us time work marks b → a ≡ b
    forward_traced_one f g =
        let e = marking_one f.1 g.1 in
        let j = earliest_one f.0 g.0 in
        λ i. record { answer = record { refusal = forward_number i; count = e.2 i; intake = j i }; work = e.0 i; marks = e.1 i }

    pub forward_one : a ≡ b
    forward_one = go (ℕ_discrete a.answer.refusal 0)
      where
        go : Dec (a.answer.refusal ≡ 0) → a ≡ b
        go (yes z) = forward_traced_one (p.traced z) (q.traced (sym forward_number ∙ z))
        go (no z) =
            p.refused z
            ∙ (λ i. record { answer = record { refusal = forward_number i; count = 0; intake = 0 }; work = work; marks = marks })
            ∙ sym (q.refused (λ y. z (forward_number ∙ y)))
