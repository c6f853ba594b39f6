-- The forward trace of a list is the union of those of its members, each traced alone (specs/Members.antt).
use Rattle.std.specs.Prelude.{Ok}
use Prim.Native.Nat.{ℕ, ◌<◌}
use mathlib.Core.Path.{◌≡◌, refl, sym, ◌∙◌, ap}
use mathlib.Core.Logic.Iff
use mathlib.Core.Logic.{◌↔◌}
use mathlib.Core.List.Memᴰ
use mathlib.Core.List.{List, [], ◌∷◌, Memᴰ}
use lib.ListN.{get_or}
use Rattle.refusals.specs.Refusals.{number_of}
use Rattle.rows.specs.declared.Counts.{Counts}
use Rattle.rules.specs.Trail.{Tables, Trail, trail_of}
use Rattle.rules.specs.Start.{start_of, intake_of}
use Rattle.rules.specs.Backward.{buffer_checks}
use Rattle.rules.specs.Members.{OfAny}
use Rattle.rules.specs.Forward.{MarkedFrom, IntakeFrom, forward_intake, ForwardTrace, forward_of}
use Rattle.rules.proofs.Members.{of_any_iff, of_any_one, earliest-same}
use Rattle.closure.specs.Arcs.{AllBelow}
use Rattle.closure.specs.ByRelations.{MarksLeft, HasMarkedVersion, IsForwardTrace}
use Rattle.closure.specs.Members.{MarkedAlone, Union}
use Rattle.closure.proofs.Checked.{declared_next, checked_by, number_passed, passed_rows, versions_few, passed_entities}
use Rattle.closure.proofs.FromStart.{intake_from}
use Rattle.closure.proofs.Marking.{count_of_iff}
use Rattle.closure.proofs.TraceCalls.{trace_checked, forward_of_passed}
use Rattle.closure.proofs.Traced.{ForwardTraced}
use Rattle.closure.proofs.ByRelations.{traces_by_relations}

-- an entity with a version that one of the members marks is one with a version that it marks alone, of one of them
pub owner_any : (T : Trail) (us : List ℕ) (M : ℕ → ℕ → Type 0) (x : ℕ) → HasMarkedVersion T (OfAny us M) x ↔ OfAny us (λ u. HasMarkedVersion T (M u)) x
owner_any T us M x = (λ z. (z.1.0, z.1.1, (z.0, z.1.2, z.2)), λ z. (z.2.0, (z.0, z.1, z.2.1), z.2.2))

-- the byte of a place in use
in_use : {n : ℕ} {M : ℕ → Type 0} {lent left : List ℕ} → MarksLeft n M lent left → (k : ℕ) → k < n → (get_or left k 0 ≡ 1) ↔ M k
in_use g k l = (λ q. (g.marked k).0 (l, q), λ d. ((g.marked k).1 d).1)

-- lists of declared entities are checked alike
checked_alike : (c : Counts) (t : Tables) (us us' work marks : List ℕ) → AllBelow c.entities us → AllBelow c.entities us'
    → trace_checked c t us work marks ≡ trace_checked c t us' work marks
checked_alike c t us us' work marks h h' =
    let cs = buffer_checks c work marks in
    checked_by c t us us' work marks (declared_next c.entities cs us h ∙ sym (declared_next c.entities cs us' h'))

module _ (c : Counts) (t : Tables) (us : List ℕ) (time : ℕ) (work marks : List ℕ) (z : (forward_of c t us time work marks).answer.refusal ≡ 0) where
  abbrev T : Trail
  T = trail_of c t

  abbrev of : List ℕ → ForwardTrace
  of vs = forward_of c t vs time work marks

  is : (vs : List ℕ) → IsForwardTrace c t vs time work marks (of vs)
  is vs = (traces_by_relations.forward c t vs time work marks _).0 refl

  passed : trace_checked c t us work marks ≡ Ok tt
  passed = number_passed c t us work marks (sym (is us).refusal ∙ z)

  h : AllBelow c.entities us
  h = passed_entities c t us work marks passed

  module _ (u : ℕ) (m : Memᴰ u us) where
    passed_alone : trace_checked c t (u ∷ []) work marks ≡ Ok tt
    passed_alone = checked_alike c t (u ∷ []) us work marks (λ v k. rw (Memᴰ.eq_of_singleton k) (h u m)) h ∙ passed

    number_alone : (of (u ∷ [])).answer.refusal ≡ 0
    number_alone = (is (u ∷ [])).refusal ∙ ap number_of passed_alone

    traced_alone : ForwardTraced T (u ∷ []) time work marks (of (u ∷ []))
    traced_alone = (is (u ∷ [])).traced number_alone

    intake_alone : (of (u ∷ [])).answer.intake ≡ intake_of T (start_of T u time) time
    unfolding forward_intake
    intake_alone = ap (λ (f : ForwardTrace). f.answer.intake) (forward_of_passed c t (u ∷ []) time work marks passed_alone)

    marked_alone : (w : ℕ) → w < c.versions → MarkedFrom T time u w ↔ (get_or (of (u ∷ [])).work w 0 ≡ 1)
    marked_alone w l = Iff.symm (Iff.trans (in_use traced_alone.1.versions w l) (of_any_one (MarkedFrom T time) u w))

    owner_alone : (x : ℕ) → x < c.entities → HasMarkedVersion T (MarkedFrom T time u) x ↔ (get_or (of (u ∷ [])).marks x 0 ≡ 1)
    owner_alone x l =
        Iff.symm
        (Iff.trans (in_use traced_alone.1.entities x l) (Iff.trans (owner_any T (u ∷ []) (MarkedFrom T time) x) (of_any_one (λ v. HasMarkedVersion T (MarkedFrom T time v)) u x)))

  traced : ForwardTraced T us time work marks (of us)
  traced = (is us).traced z

  marks_union : (x : ℕ) → x < c.entities → (get_or (of us).marks x 0 ≡ 1) ↔ MarkedAlone us (λ u. of (u ∷ [])) (λ g. g.marks) x
  marks_union x l =
      Iff.trans (in_use traced.1.entities x l)
      (Iff.trans (owner_any T us (MarkedFrom T time) x)
      (of_any_iff us (λ u. HasMarkedVersion T (MarkedFrom T time u)) (λ u k. get_or (of (u ∷ [])).marks k 0 ≡ 1) x (λ u m. owner_alone u m x l)))

  pub union : Union us (λ u. of (u ∷ [])) c (of us)
  union = record {
    member = number_alone;
    work = λ w l.
        Iff.trans (in_use traced.1.versions w l)
        (of_any_iff us (MarkedFrom T time) (λ u k. get_or (of (u ∷ [])).work k 0 ≡ 1) w (λ u m. marked_alone u m w l));
    marks = marks_union;
    count = count_of_iff
        (λ x. (
          λ d. let o = (traced.1.entities.marked x).1 d in (o.0, (marks_union x o.0).0 o.1),
          λ o. (traced.1.entities.marked x).0 (o.0, (marks_union x o.0).1 o.1),
        ))
        traced.1.counted;
    intake = earliest-same
        (λ i. of_any_iff us (IntakeFrom T time) (λ u j. j ≡ (of (u ∷ [])).answer.intake) i
        (λ u m.
        let g = intake_from T (passed_rows c t us work marks passed) (versions_few c t us work marks passed) time u (h u m) i in
        (λ d. g.1 d ∙ sym (intake_alone u m), λ q. g.0 (q ∙ intake_alone u m))))
        (λ q. q) traced.0;
  }
