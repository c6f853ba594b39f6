-- Document 01's rule is one of the workings that the trace theorem is about: what each record does to the rows.
use Rattle.std.specs.Prelude.{Some, None}
use Prim.Native.Nat.{ℕ, zero, suc, ◌≤◌, ◌<◌}
use native.Mathlib.Omega.{arith}
use native.Mathlib.Nat.{eq-or-lt_of_le}
use native.Mathlib.Numerals.{add-one}
use mathlib.Core.Path.{◌≡◌, refl, sym, ◌∙◌, ap}
use mathlib.Core.Logic.{inl, inr, ⊎_elim}
use mathlib.Mathlib.Data.Bool.Basic.{or-eq-false-eq-eq-false-and-eq-false}
use mathlib.Core.Bool.{Bool, true, false}
use borrow.Author.Tests.{eqb-false}
use Rattle.rows.specs.declared.EdgeNo.{EdgeNo}
use Rattle.rows.specs.declared.EntityRow.{EntityRow}
use Rattle.rows.specs.declared.VersionRow.{VersionRow}
use Rattle.rows.specs.declared.EdgeRow.{EdgeRow}
use Rattle.record.specs.declared.Declaration.{Declaration}
use Rattle.record.specs.declared.Event.{Event}
use Rattle.record.specs.declared.Signature.{Signature}
use Rattle.rules.specs.Decide.{Found}
use Rattle.rules.specs.declared.Decision.{Decision}
use Rattle.rules.specs.declared.Decision.TheVariants.{Repeat, Widen}
use Rattle.rules.specs.Trail.{Capacity, Trail, none, latest_of}
use Rattle.rules.specs.Decide.{leaves, repeat_of, has_outgoing, decide, decision_of}
use Rattle.rules.specs.Record.{declared, repeated, widened, renewed, signed}
use Rattle.rules.specs.PlainList.{changed}
use Rattle.rules.specs.Forward.{ForwardMarks}
use Rattle.soundness.specs.Taken.{EventTaken, SignatureTaken}
use Rattle.soundness.proofs.Hit.{decision_found}
use Rattle.soundness.proofs.Put.{put_same, put_other}
use Rattle.soundness.proofs.Extends.{Extends}
use Rattle.soundness.proofs.Declared as by_declaration
use Rattle.soundness.proofs.Repeated.{repeated_extends}
use Rattle.soundness.proofs.Widened.{widened_extends}
use Rattle.soundness.proofs.Renewed as by_renewal
use Rattle.causality.specs.Working.{Leads, Unused, Keeps, Same, Declares, AddsEdge}
use Rattle.soundness.proofs.Signed.{latest_same, signed_extends}

-- What the searches find

-- where none leaves f, no edge below n does
pub leaves_none : (E : ℕ → EdgeRow) (f n : ℕ) → leaves E f n ≡ false → (k : ℕ) → k < n → (E k).from.0 ≡ f → ⊥
unfolding leaves
leaves_none E f zero h k l p = omega arith
leaves_none E f (suc n) h k l p =
    let z = (or-eq-false-eq-eq-false-and-eq-false _ _).0 h in
    ⊎_elim (λ e. eqb-false _ _ z.0 (ap (λ j. (E j).from.0) (sym e) ∙ p)) (λ i. leaves_none E f n z.1 k i p) (eq-or-lt_of_le (let m : k ≤ n = omega arith in m))

module _ (T : Trail) (e : Event) where
  -- a repeat: an edge leads from the source's latest version to a version of the target
  pub repeat_may_drop : (k : EdgeNo) → decision_of T e ≡ Repeat k → Leads T (latest_of T e.source.0) e.target.0
  repeat_may_drop k h =
      let z = decision_found T e k h in
      record {
        version = (T.edge k.0).to.0;
        marked = ForwardMarks.leaving k.0 z.0 (ForwardMarks.start z.1.0) refl;
        owner = z.1.1;
      }

  decided_widen : (x : Found) (g : Bool) → decide x g ≡ Widen → g ≡ false
  decided_widen (Some j) g h = absurd (let z : ◌≡◌ {A = ℕ} 0 1 = cc in omega arith)
  decided_widen None true h = absurd (let z : ◌≡◌ {A = ℕ} 0 1 = cc in omega arith)
  decided_widen None false h = refl

  widen_unused : decision_of T e ≡ Widen → Unused T (latest_of T e.target.0)
  unfolding decision_of has_outgoing
  widen_unused h b t i = leaves_none T.edge _ _ (decided_widen (repeat_of T e) _ h) i.number i.inside i.from

-- What each record does to the rows

pub keeps : {T T' : Trail} → Extends T T' → Keeps T T'
keeps x = record {
  owner_old = x.owner_same;
  start_old = x.start_same;
  previous_old = x.previous_same;
  from_old = x.edges.from-same;
  to_old = x.edges.to_same;
  kind_old = x.edges.kind_same;
  time_old = x.edges.time_same;
}

pub declares : (T : Trail) (d : Declaration) → Declares T (changed T (declared T.counts d))
declares T d = record {
  ne_is = add-one _;
  nv_is = add-one _;
  nd_is = refl;
  latest_new = by_declaration.new_latest T d;
  latest_old = λ y l. ap (λ (r : EntityRow). r.latest.0) (by_declaration.other_entity T d y l);
  owner_new = by_declaration.new-owner T d;
  start_new = ap (λ (r : VersionRow). r.start) (by_declaration.new_version T d);
  previous_new = ap (λ (r : VersionRow). r.previous.0) (by_declaration.new_version T d);
  old = keeps (by_declaration.declared_extends T d);
}

pub signs : (T : Trail) (g : Signature) → SignatureTaken T g → Same T (changed T (signed T g))
signs T g p = record { ne_is = refl; nv_is = refl; nd_is = refl; latest_old = λ y l. latest_same T g p y; old = keeps (signed_extends T g p) }

pub repeats : (cap : Capacity) (T : Trail) (e : Event) (k : EdgeNo) → EventTaken cap T e (Repeat k) → Same T (changed T (repeated T e k.0))
repeats cap T e k p = record { ne_is = refl; nv_is = refl; nd_is = refl; latest_old = λ y l. refl; old = keeps (repeated_extends cap T e k p) }

module _ (cap : Capacity) (T : Trail) (e : Event) (d : Decision) (p : EventTaken cap T e d) where
  pub widens : decision_of T e ≡ Widen → AddsEdge T (changed T (widened T e)) e (latest_of T e.target.0)
  widens h = record {
    ne_is = refl;
    nd_is = add-one _;
    latest_target = refl;
    latest_other = λ y l n. refl;
    from_new = ap (λ (r : EdgeRow). r.from.0) (put_same T.edge _ _);
    to_new = ap (λ (r : EdgeRow). r.to.0) (put_same T.edge _ _);
    kind_new = ap (λ (r : EdgeRow). r.kind) (put_same T.edge _ _);
    time_new = ap (λ (r : EdgeRow). r.time) (put_same T.edge _ _);
    shape = inl (record { is = refl; nv_is = refl; unused = widen_unused T e h });
    old = keeps (widened_extends cap T e d p);
  }

  -- the old latest version is not numbered as none
  pub renews : (latest_of T e.target.0 ≡ none → ⊥) → AddsEdge T (changed T (renewed T e)) e T.counts.versions
  renews few = record {
    ne_is = refl;
    nd_is = add-one _;
    latest_target = by_renewal.new_latest cap T e d p;
    latest_other = λ y l n. ap (λ r. r.latest.0) (put_other T.entity _ _ y n);
    from_new = ap (λ (r : EdgeRow). r.from.0) (put_same T.edge _ _);
    to_new = ap (λ (r : EdgeRow). r.to.0) (put_same T.edge _ _);
    kind_new = ap (λ (r : EdgeRow). r.kind) (put_same T.edge _ _);
    time_new = ap (λ (r : EdgeRow). r.time) (put_same T.edge _ _);
    shape = inr (record {
      is = refl;
      nv_is = add-one _;
      owner = by_renewal.new-owner cap T e d p;
      start = by_renewal.new_start cap T e d p;
      some = λ q. few (sym (by_renewal.new-previous cap T e d p) ∙ q);
      previous = by_renewal.new-previous cap T e d p;
    });
    old = keeps (by_renewal.renewed_extends cap T e d p);
  }
