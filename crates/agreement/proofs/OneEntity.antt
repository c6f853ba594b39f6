-- What the claim about lists of entities says of the list of one is what document 01 says of that entity (specs/OneEntity.antt).
use Prim.Native.Nat.{ℕ}
use mathlib.Core.Logic.Iff
use mathlib.Core.Logic.{◌↔◌}
use mathlib.Core.List.{List, [], ◌∷◌}
use Rattle.record.specs.declared.Record.{Record}
use Rattle.rules.specs.Paths.{PathAfter}
use Rattle.rules.specs.History.{accepted, intake_time, Reached}
use Rattle.rules.specs.PlainList.{items_of}
use Rattle.rules.specs.Members.{OfAny}
use Rattle.rules.specs.Forward.{ForwardTrace}
use Rattle.rules.proofs.Members.{of_any_one, earliest_alone}
use Rattle.closure.proofs.Marking.{count_of_iff}
use Rattle.agreement.specs.Demand3.{MarksAre, ForwardAgrees}
use Rattle.agreement.specs.OneEntity.{OneAgrees, OneEntity}
use Rattle.agreement.proofs.Demand3.{next_forward}

-- marks of the same entities
marks_are_iff : {n : ℕ} {M N : ℕ → Type 0} {marks : List ℕ} {k : ℕ} → ((x : ℕ) → M x ↔ N x) → MarksAre n M marks k → MarksAre n N marks k
marks_are_iff h g = record {
  bits = g.bits;
  marked = λ x l. (λ q. (h x).0 ((g.marked x l).0 q), λ d. (g.marked x l).1 ((h x).1 d));
  counted = count_of_iff (λ x. (λ z. (z.0, (h x).0 z.1), λ z. (z.0, (h x).1 z.1))) g.counted;
}

module _ (rs : List Record) (u time : ℕ) (work marks : List ℕ) (f : ForwardTrace) where
  reached : (y : ℕ) → OfAny (u ∷ []) (λ v. Reached v time (items_of rs)) y ↔ Reached u time (items_of rs) y
  reached y = of_any_one (λ v. Reached v time (items_of rs)) u y

  to_one : ForwardAgrees rs (u ∷ []) time work marks f → OneAgrees rs u time work marks f
  to_one a = record {
    refusal = a.refusal;
    marks_are = λ z. marks_are_iff reached (a.marks_are z);
    intake_is = λ z. (earliest_alone (λ v. intake_time v time (items_of rs))).0 (a.intake_is z);
    never_less = λ z y p. a.never_less z y ((of_any_one (PathAfter (accepted (items_of rs)) time) u y).1 p);
  }

  from_one : OneAgrees rs u time work marks f → ForwardAgrees rs (u ∷ []) time work marks f
  from_one a = record {
    refusal = a.refusal;
    marks_are = λ z. marks_are_iff (λ y. Iff.symm (reached y)) (a.marks_are z);
    intake_is = λ z. (earliest_alone (λ v. intake_time v time (items_of rs))).1 (a.intake_is z);
    never_less = λ z y p. a.never_less z y ((of_any_one (PathAfter (accepted (items_of rs)) time) u y).0 p);
  }

pub one_entity : OneEntity
one_entity = record {
  of_one = λ rs u time work marks f. (to_one rs u time work marks f, from_one rs u time work marks f);
  after = λ cs c t l u time work marks. to_one _ u time work marks _ (next_forward l (u ∷ []) time work marks);
}
