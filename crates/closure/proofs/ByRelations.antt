-- The computed trace calls are those that document 01's relations say (specs/ByRelations.antt), and only those are.
use Rattle.std.specs.Prelude.{Ok, Err}
use Prim.Native.Nat.{ℕ}
use native.Mathlib.Omega.{arith}
use mathlib.Core.Path.{◌≡◌, refl, sym, ◌∙◌, ap, subst}
use mathlib.Core.List.{List, [], ◌∷◌}
use Rattle.refusals.specs.declared.Refusal.{Refusal}
use Rattle.refusals.specs.Refusals.{Checked}
use Rattle.refusals.specs.Refusals.{refusal_no, number_of}
use Rattle.rows.specs.declared.Counts.{Counts}
use Rattle.rules.specs.Trail.{Tables}
use Rattle.rules.specs.Backward.{backward_of}
use Rattle.rules.specs.Forward.{forward_of}
use Rattle.closure.specs.ByRelations.{IsBackwardTrace, IsForwardTrace, TracesByRelations}
use Rattle.closure.proofs.Checked.{number_passed}
use Rattle.closure.proofs.TraceCalls.{trace_checked, backward_of_passed, forward_of_passed, backward_of_refused, forward_of_refused}
use Rattle.closure.proofs.Traced.{backward_traced, forward_started, forward_traced}
use Rattle.closure.proofs.Determined.{backward_one, forward_one}

module _ (c : Counts) (t : Tables) where
  -- where one refuses, the number is not 0
  refused_number : (xs work marks : List ℕ) (r : Refusal) → trace_checked c t xs work marks ≡ Err r → refusal_no r ≡ 0 → ⊥
  refused_number xs work marks r p q =
      let e : trace_checked c t xs work marks ≡ Ok tt = number_passed c t xs work marks (ap number_of p ∙ q) in
      let z : ◌≡◌ {A = ℕ} 0 1 = cc in
      omega arith

  backward_of_is : (x time : ℕ) (work marks : List ℕ) → IsBackwardTrace c t x time work marks (backward_of c t x time work marks)
  backward_of_is x time work marks = go (trace_checked c t (x ∷ []) work marks) refl
    where
      go : (k : Checked) → trace_checked c t (x ∷ []) work marks ≡ k → IsBackwardTrace c t x time work marks (backward_of c t x time work marks)
      go (Ok tt) p =
          subst (IsBackwardTrace c t x time work marks) (sym (backward_of_passed c t x time work marks p))
          (record { refusal = ap number_of (sym p); refused = λ z. absurd (z refl); traced = λ _. backward_traced c t x time work marks p })
      go (Err r) p =
          subst (IsBackwardTrace c t x time work marks) (sym (backward_of_refused c t x time work marks r p))
          (record { refusal = ap number_of (sym p); refused = λ _. refl; traced = λ q. absurd (refused_number (x ∷ []) work marks r p q) })

  forward_of_is : (us : List ℕ) (time : ℕ) (work marks : List ℕ) → IsForwardTrace c t us time work marks (forward_of c t us time work marks)
  forward_of_is us time work marks = go (trace_checked c t us work marks) refl
    where
      go : (k : Checked) → trace_checked c t us work marks ≡ k → IsForwardTrace c t us time work marks (forward_of c t us time work marks)
      go (Ok tt) p =
          subst (IsForwardTrace c t us time work marks) (sym (forward_of_passed c t us time work marks p))
          (record {
            refusal = ap number_of (sym p);
            refused = λ z. absurd (z refl);
            started = λ _. forward_started c t us time work marks p;
            traced = λ _. forward_traced c t us time work marks p;
          })
      go (Err r) p =
          subst (IsForwardTrace c t us time work marks) (sym (forward_of_refused c t us time work marks r p))
          (record {
            refusal = ap number_of (sym p);
            refused = λ _. refl;
            started = λ q. absurd (refused_number us work marks r p q);
            traced = λ q. absurd (refused_number us work marks r p q);
          })

pub traces_by_relations : TracesByRelations
traces_by_relations = record {
  backward = λ c t v time work marks b. (
    λ e. subst (IsBackwardTrace c t v time work marks) (sym e) (backward_of_is c t v time work marks),
    λ p. backward_one c t v time work marks b _ p (backward_of_is c t v time work marks),
  );
  forward = λ c t us time work marks f. (
    λ e. subst (IsForwardTrace c t us time work marks) (sym e) (forward_of_is c t us time work marks),
    λ p. forward_one c t us time work marks f _ p (forward_of_is c t us time work marks),
  );
}
