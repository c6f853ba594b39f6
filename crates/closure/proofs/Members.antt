-- Forward traces of lists with the same members, of a list with an undeclared member, and of one entity (specs/Members.antt).
use Rattle.std.specs.Prelude.{Ok, Err}
use Prim.Native.Nat.{ℕ, ◌≤◌}
use native.Mathlib.Omega.{arith}
use mathlib.Core.Path.{◌≡◌, refl, sym, ◌∙◌, ap, subst}
use mathlib.Core.Logic.Iff
use mathlib.Core.Logic.{◌⊎◌, inl, inr, ◌↔◌}
use mathlib.Core.Bool.{Bool, true, false, not, cond}
use mathlib.Core.List.Memᴰ
use mathlib.Core.List.{List, [], ◌∷◌, cons≢nil, Memᴰ}
use lib.ListN.{length}
use lib.Dec.{leb, ltb}
use borrow.Author.Tests.{leb-true}
use Rattle.refusals.specs.declared.Refusal.TheVariants.{Unsound, Undeclared, BufferShort}
use Rattle.refusals.specs.Refusals.{Check, first_of, number_of}
use Rattle.rows.specs.declared.Counts.{Counts}
use Rattle.rules.specs.Trail.{Tables, capacity_of, Trail, trail_of}
use Rattle.rules.specs.Sound.{is_sound}
use Rattle.rules.specs.Start.{StartVersion, IsIntake}
use Rattle.rules.specs.Backward.{buffer_checks, trace_refusals, trace_checks}
use Rattle.rules.specs.Members.{OfAny, IsEarliest}
use Rattle.rules.specs.Forward.{ForwardMarks, MarkedFrom, IntakeFrom, ForwardTrace, forward_of}
use Rattle.rules.proofs.Start.{start_one}
use Rattle.rules.proofs.Members.{of_any_one, of_any_same, earliest-same}
use Rattle.closure.specs.Arcs.{AllBelow}
use Rattle.closure.specs.ByRelations.{Marking, IsForwardTrace}
use Rattle.closure.specs.Members.{SameMembers, Members}
use Rattle.closure.proofs.Checked.{declared_or_not, declared_next, undeclared_refused, checked_by}
use Rattle.closure.proofs.Marking.{marking_iff}
use Rattle.closure.proofs.TraceCalls.{trace_checked}
use Rattle.closure.proofs.ByRelations.{traces_by_relations}
use Rattle.closure.proofs.Union.{union}

module _ (c : Counts) (t : Tables) (work marks : List ℕ) where
  -- Lists with the same members

  refusals-same : (us us' : List ℕ) → SameMembers us us' → first_of (trace_refusals c us work marks) ≡ first_of (trace_refusals c us' work marks)
  refusals-same us us' h = go (declared_or_not c.entities us)
    where
      cs : List Check
      cs = buffer_checks c work marks

      go : AllBelow c.entities us ⊎ ((x : ℕ) × Memᴰ x us × (c.entities ≤ x)) → first_of (trace_refusals c us work marks) ≡ first_of (trace_refusals c us' work marks)
      go (inl a) = declared_next c.entities cs us a ∙ sym (declared_next c.entities cs us' (λ x m. a x ((h x).1 m)))
      go (inr (x, m, l)) = undeclared_refused c.entities cs us x m l ∙ sym (undeclared_refused c.entities cs us' x ((h x).0 m) l)

  checked-same : (us us' : List ℕ) → SameMembers us us' → trace_checked c t us work marks ≡ trace_checked c t us' work marks
  checked-same us us' h = checked_by c t us us' work marks (refusals-same us us' h)

  none-same : (us us' : List ℕ) → SameMembers us us' → us ≡ [] → us' ≡ []
  none-same us [] h q = refl
  none-same us (x ∷ us') h q = absurd (Memᴰ.not-nil (subst (Memᴰ x) q ((h x).1 (Memᴰ.head refl))))

  module _ (us us' : List ℕ) (h : SameMembers us us') (time : ℕ) where
    trace_same : (f : ForwardTrace) → IsForwardTrace c t us time work marks f → IsForwardTrace c t us' time work marks f
    trace_same f p = record {
      refusal = p.refusal ∙ ap number_of (checked-same us us' h);
      refused = p.refused;
      started = λ z u m. p.started z u ((h u).1 m);
      traced = λ z. (
        earliest-same (of_any_same (IntakeFrom (trail_of c t) time) us us' h) (none-same us us' h) (p.traced z).0,
        marking_iff (of_any_same (MarkedFrom (trail_of c t) time) us us' h) (p.traced z).1,
      );
    }

    same_members : forward_of c t us time work marks ≡ forward_of c t us' time work marks
    same_members =
        (traces_by_relations.forward c t us' time work marks _).1
        (trace_same _ ((traces_by_relations.forward c t us time work marks _).0 refl))

  -- An undeclared member

  -- u is refused with 5 alone: the tables are sound, and it is not declared
  refused_5 : (u : ℕ) → number_of (trace_checked c t (u ∷ []) work marks) ≡ 5 → (is_sound (capacity_of t) (trail_of c t) ≡ true) × (c.entities ≤ u)
  unfolding trace_checks first_of
  refused_5 u = go (is_sound (capacity_of t) (trail_of c t)) refl (leb c.entities u) refl (ltb (length work) c.versions) (ltb (length marks) c.entities)
    where
      go : (s : Bool) → is_sound (capacity_of t) (trail_of c t) ≡ s → (b : Bool) → leb c.entities u ≡ b → (v w : Bool)
          → number_of (cond (not s) (Err Unsound) (cond b (Err Undeclared) (cond v (Err BufferShort) (cond w (Err BufferShort) (Ok tt))))) ≡ 5
          → (is_sound (capacity_of t) (trail_of c t) ≡ true) × (c.entities ≤ u)
      go false e b q v w z = absurd (omega arith)
      go true e true q v w z = (e, leb-true _ _ q)
      go true e false q true w z = absurd (omega arith)
      go true e false q false true z = absurd (omega arith)
      go true e false q false false z = absurd (omega arith)

  list_refused_5 : (us : List ℕ) (u : ℕ) → Memᴰ u us → number_of (trace_checked c t (u ∷ []) work marks) ≡ 5 → number_of (trace_checked c t us work marks) ≡ 5
  unfolding trace_checks first_of
  list_refused_5 us u m z =
      let r = refused_5 u z in
      rw r.0 (ap number_of (undeclared_refused c.entities (buffer_checks c work marks) us u m r.1))

  undeclared : (us : List ℕ) (time u : ℕ) → Memᴰ u us → (forward_of c t (u ∷ []) time work marks).answer.refusal ≡ 5 → (forward_of c t us time work marks).answer.refusal ≡ 5
  undeclared us time u m z =
      ((traces_by_relations.forward c t us time work marks _).0 refl).refusal
      ∙ list_refused_5 us u m (sym ((traces_by_relations.forward c t (u ∷ []) time work marks _).0 refl).refusal ∙ z)

  -- One entity

  module _ (u time : ℕ) (f : ForwardTrace) (p : IsForwardTrace c t (u ∷ []) time work marks f) (z : f.answer.refusal ≡ 0) where
    abbrev T : Trail
    T = trail_of c t

    s : (s : ℕ) × StartVersion T u time s
    s = p.started z u (Memᴰ.head refl)

    intake : IsEarliest (u ∷ []) (IntakeFrom T time) f.answer.intake → IsIntake T s.0 time f.answer.intake
    intake (IsEarliest.least o b) =
        let d = (of_any_one (IntakeFrom T time) u f.answer.intake).0 o in
        subst (λ (w : ℕ). IsIntake T w time f.answer.intake) (start_one d.1 s.1) d.2
    intake (IsEarliest.empty q r) = absurd (cons≢nil q)

    marked : (w : ℕ) → OfAny (u ∷ []) (MarkedFrom T time) w ↔ ForwardMarks T s.0 w
    marked w =
        Iff.trans (of_any_one (MarkedFrom T time) u w)
        (λ d. subst (λ (x : ℕ). ForwardMarks T x w) (start_one d.1 s.1) d.2, λ d. (s.0, s.1, d))

    one : (w : ℕ) × StartVersion T u time w × IsIntake T w time f.answer.intake × Marking T (ForwardMarks T w) work marks f.work f.marks f.answer.count
    one = (s.0, s.1, intake (p.traced z).0, marking_iff marked (p.traced z).1)

pub members : Members
members = record {
  union = union;
  undeclared = λ c t us time work marks. undeclared c t work marks us time;
  same_members = λ c t us us' h time work marks. same_members c t work marks us us' h time;
  one = λ c t u time work marks. one c t work marks u time;
}
