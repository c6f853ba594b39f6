-- Two trails of which the second accepted just the kept events of the first give equal traces.
use Prim.Native.Nat.{ℕ, ◌<◌}
use native.Mathlib.Omega.{arith}
use mathlib.Core.Path.{◌≡◌, sym, ◌∙◌, subst}
use mathlib.Core.Logic.Iff
use mathlib.Core.Logic.{◌↔◌}
use mathlib.Core.List.{List, Memᴰ}
use lib.ListN.{get_or}
use Rattle.record.specs.declared.Event.{Event}
use Rattle.rules.specs.Trail.{Trail}
use Rattle.rules.specs.History.{Item, accepted, kept_events, since}
use Rattle.rules.specs.Start.{start_of, intake_of}
use Rattle.rules.specs.Backward.{backward_entities}
use Rattle.rules.specs.Members.{OfAny}
use Rattle.rules.specs.Forward.{ForwardMarks, forward_entities, forward_intake}
use Rattle.rules.proofs.Members.{of_any_iff, earliest_one, earliest-same, earliest_is}
use Rattle.closure.specs.Arcs.{AllBelow}
use Rattle.closure.specs.ByRelations.{HasMarkedVersion}
use Rattle.closure.proofs.StartVersion.{start_of_is}
use Rattle.closure.proofs.Marks.{marks_ext}
use Rattle.closure.proofs.Traces.{backward_marks, forward_marks, length-backward_entities, length-forward_entities, bits_backward_entities, bits_forward_entities}
use Rattle.closure.proofs.Union.{owner_any}
use Rattle.causality.proofs.Reach.{Reach, reach_path}
use Rattle.causality.proofs.Parts.{up_to}
use Rattle.causality.proofs.PathsBy.{causal_by}
use Rattle.agreement.proofs.Held.{marked_some, Known}
use Rattle.agreement.proofs.KeptOnly.{all_kept, accepted-all_kept, forward_kept, intake_time_kept, backward_kept}

-- The traces of one trail

module _ {T : Trail} {n : ℕ} {hs : List Item} (k : Known T n hs) where
  backward_iff : (v t x : ℕ) → v < T.counts.entities → x < T.counts.entities → get_or (backward_entities T v t) x 0 ≡ 1 ↔ Reach (up_to t (accepted hs)) x v
  backward_iff v t x h l =
      Iff.trans (backward_marks T k.rows v t x h l)
      (Iff.trans marked_some
      (Iff.trans (k.faithful.backward v t (start_of T v t) x h (start_of_is T k.rows k.few v t h))
      (Iff.symm (Iff.trans (reach_path (up_to t (accepted hs)) x v) (causal_by t (accepted hs) x v)))))

  forward_iff : (us : List ℕ) (t y : ℕ) → AllBelow T.counts.entities us → y < T.counts.entities
      → get_or (forward_entities T us t) y 0 ≡ 1 ↔ OfAny us (λ u. Reach (since u t hs) u) y
  forward_iff us t y h l =
      Iff.trans (forward_marks T k.rows us t y h l)
      (Iff.trans (owner_any T us (λ u. ForwardMarks T (start_of T u t)) y) (of_any_iff us (λ u. HasMarkedVersion T (ForwardMarks T (start_of T u t))) (λ u. Reach (since u t hs) u) y one))
    where
      one : (u : ℕ) → Memᴰ u us → HasMarkedVersion T (ForwardMarks T (start_of T u t)) y ↔ Reach (since u t hs) u y
      one u m =
          Iff.trans marked_some
          (Iff.trans (k.faithful.forward u t (start_of T u t) y (h u m) (start_of_is T k.rows k.few u t (h u m))) (Iff.symm (reach_path (since u t hs) u y)))

-- The traces of both

module _ {T U : Trail} {n m : ℕ} {hs : List Item} (k : Known T n hs) (j : Known U m (all_kept (kept_events hs))) (q : U.counts.entities ≡ T.counts.entities) where
  pub backward_again : (v t : ℕ) → v < T.counts.entities → backward_entities U v t ≡ backward_entities T v t
  backward_again v t h =
      marks_ext (backward_entities U v t) (backward_entities T v t) (length-backward_entities U v t ∙ q ∙ sym (length-backward_entities T v t))
      (bits_backward_entities U v t) (bits_backward_entities T v t) (λ x l. same x (omega (arith, length-backward_entities U v t)))
    where
      same : (x : ℕ) → x < U.counts.entities → get_or (backward_entities U v t) x 0 ≡ 1 ↔ get_or (backward_entities T v t) x 0 ≡ 1
      same x l =
          Iff.trans (backward_iff j v t x (omega arith) l)
          (Iff.trans
          (subst (λ (es : List Event). Reach (up_to t es) x v ↔ Reach (up_to t (accepted hs)) x v) (sym (accepted-all_kept (kept_events hs))) (Iff.symm (backward_kept k.grown t x v)))
          (Iff.symm (backward_iff k v t x h (omega arith))))

  module _ (us : List ℕ) (t : ℕ) (h : AllBelow T.counts.entities us) where
    in_both : AllBelow U.counts.entities us
    in_both u m = omega (arith, h u m)

    pub forward_again : forward_entities U us t ≡ forward_entities T us t
    forward_again =
        marks_ext (forward_entities U us t) (forward_entities T us t) (length-forward_entities U us t ∙ q ∙ sym (length-forward_entities T us t))
        (bits_forward_entities U us t) (bits_forward_entities T us t) (λ y l. same y (omega (arith, length-forward_entities U us t)))
      where
        same : (y : ℕ) → y < U.counts.entities → get_or (forward_entities U us t) y 0 ≡ 1 ↔ get_or (forward_entities T us t) y 0 ≡ 1
        same y l =
            Iff.trans (forward_iff j us t y in_both l)
            (Iff.trans (of_any_iff us (λ u. Reach (since u t (all_kept (kept_events hs))) u) (λ u. Reach (since u t hs) u) y (λ u m. forward_kept k.grown u t y (h u m)))
            (Iff.symm (forward_iff k us t y h (omega arith))))

    -- of a member
    intake_same : (u : ℕ) → Memᴰ u us → intake_of U (start_of U u t) t ≡ intake_of T (start_of T u t) t
    intake_same u m =
        j.faithful.intake u t (start_of U u t) (in_both u m) (start_of_is U j.rows j.few u t (in_both u m))
        ∙ intake_time_kept u t hs
        ∙ sym (k.faithful.intake u t (start_of T u t) (h u m) (start_of_is T k.rows k.few u t (h u m)))

    pub intake_again : forward_intake U us t ≡ forward_intake T us t
    unfolding forward_intake
    intake_again =
        earliest_one (earliest_is (λ u. intake_of U (start_of U u t) t) us)
        (earliest-same
        (λ i. of_any_iff us (λ u n. n ≡ intake_of T (start_of T u t) t) (λ u n. n ≡ intake_of U (start_of U u t) t) i (λ u m. (λ e. e ∙ sym (intake_same u m), λ e. e ∙ intake_same u m)))
        (λ e. e) (earliest_is (λ u. intake_of T (start_of T u t) t) us))
