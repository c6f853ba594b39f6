-- A trace call where its checks pass, and where one of them refuses.
use Rattle.std.specs.Prelude.{Ok, Err}
use Prim.Native.Nat.{ℕ}
use mathlib.Core.Path.{◌≡◌}
use mathlib.Core.List.{List, [], ◌∷◌}
use Rattle.refusals.specs.declared.Refusal.{Refusal}
use Rattle.refusals.specs.Refusals.{Checked}
use Rattle.refusals.specs.Refusals.{first_of, refusal_no}
use Rattle.rows.specs.declared.Counts.{Counts}
use Rattle.rules.specs.Trail.{Tables, Trail, trail_of}
use Rattle.rules.specs.Marks.{ones, overlaid}
use Rattle.rules.specs.Backward.{backward_work, backward_entities, trace_checks, BackwardTrace, backward_of}
use Rattle.rules.specs.Forward.{forward_work, forward_entities, forward_intake, ForwardTrace, forward_of}

abbrev pub trace_checked : Counts → Tables → List ℕ → List ℕ → List ℕ → Checked
trace_checked c t xs work marks = first_of (trace_checks c t xs work marks)

module _ (c : Counts) (t : Tables) where
  abbrev T : Trail
  T = trail_of c t

  module _ (x time : ℕ) (work marks : List ℕ) where
    abbrev pub backward_answered : BackwardTrace
    backward_answered = record {
      answer = record { refusal = 0; count = ones (backward_entities T x time) };
      work = overlaid (backward_work T x time) work;
      marks = overlaid (backward_entities T x time) marks;
    }

    pub backward_of_passed : trace_checked c t (x ∷ []) work marks ≡ Ok tt → backward_of c t x time work marks ≡ backward_answered
    unfolding backward_of
    backward_of_passed p = rw p

    pub backward_of_refused : (r : Refusal) → trace_checked c t (x ∷ []) work marks ≡ Err r → backward_of c t x time work marks ≡ record { answer = record { refusal = refusal_no r; count = 0 }; work = work; marks = marks }
    unfolding backward_of
    backward_of_refused r p = rw p

  module _ (us : List ℕ) (time : ℕ) (work marks : List ℕ) where
    abbrev pub forward_answered : ForwardTrace
    forward_answered = record {
      answer = record { refusal = 0; count = ones (forward_entities T us time); intake = forward_intake T us time };
      work = overlaid (forward_work T us time) work;
      marks = overlaid (forward_entities T us time) marks;
    }

    pub forward_of_passed : trace_checked c t us work marks ≡ Ok tt → forward_of c t us time work marks ≡ forward_answered
    unfolding forward_of
    forward_of_passed p = rw p

    pub forward_of_refused : (r : Refusal) → trace_checked c t us work marks ≡ Err r → forward_of c t us time work marks ≡ record { answer = record { refusal = refusal_no r; count = 0; intake = 0 }; work = work; marks = marks }
    unfolding forward_of
    forward_of_refused r p = rw p
