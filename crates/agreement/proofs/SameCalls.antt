-- Sound trails with the same entities, kept events and traces: traces are refused alike and answer alike, and the kept logs are equal.
use Rattle.std.specs.Prelude.{Ok, Err}
use Prim.Native.Nat.{ℕ, ◌<◌}
use mathlib.Core.Path.{◌≡◌, refl, sym, ◌∙◌, ap}
use mathlib.Core.Bool.{true, not, cond}
use mathlib.Core.List.{List, [], ◌∷◌, ◌++◌}
use lib.ListN.{length}
use lib.Dec.{ltb, eqb}
use Rattle.refusals.specs.declared.Refusal.TheVariants.{Unsound, BufferShort, OutputShort}
use Rattle.refusals.specs.Refusals.{Checked}
use Rattle.refusals.specs.Refusals.{check, first_of, number_of}
use Rattle.rows.specs.declared.Counts.{Counts}
use Rattle.rows.specs.Rows.{entity_no}
use Rattle.record.specs.declared.Record.TheVariants as records
use Rattle.record.specs.Encode.{header_bytes}
use Rattle.record.specs.Layout.{signing_version}
use Rattle.rules.specs.Trail.{Tables, capacity_of, Trail, trail_of}
use Rattle.rules.specs.Sound.{is_sound}
use Rattle.rules.specs.Batch.{if_refused}
use Rattle.rules.specs.Marks.{ones, overlaid}
use Rattle.rules.specs.Backward.{backward_entities, undeclared_checks, trace_checks, BackwardTrace, backward_of}
use Rattle.rules.specs.Forward.{forward_entities, forward_intake, ForwardTrace, forward_of}
use Rattle.rules.specs.KeptLog.{declaration_record, event_record, encoded_below, log_bytes, log_checks, kept_log, kept_log_of, declared_sort, signatures_below, log_version}
use Rattle.closure.specs.Arcs.{AllBelow}
use Rattle.closure.proofs.Checked.{passed_entities, passed_entity}
use Rattle.kept_log.proofs.Same.{encoded_below-same, signatures_below-same}
use Rattle.agreement.specs.RoundTrip.{SameTrail, SameCalls}
use Rattle.soundness.proofs.Counted.{signed_same}

-- what is read of a call that goes on or stops
if_refused-same : {A B : Type 0} (f : A → B) (x : Checked) (stop on on' : A) → (x ≡ Ok tt → f on ≡ f on') → f (if_refused x stop on) ≡ f (if_refused x stop on')
if_refused-same f (Ok tt) stop on on' h = h refl
if_refused-same f (Err r) stop on on' h = refl

-- two trails with the same entities and kept events, as many versions, and the same traces
pub record SameTraces (T U : Trail) : Type 0 where
  pub trail : SameTrail T U
  pub versions : U.counts.versions ≡ T.counts.versions
  pub backward : (v time : ℕ) → v < T.counts.entities → backward_entities U v time ≡ backward_entities T v time
  pub forward : (us : List ℕ) (time : ℕ) → AllBelow T.counts.entities us → forward_entities U us time ≡ forward_entities T us time
  pub intake : (us : List ℕ) (time : ℕ) → AllBelow T.counts.entities us → forward_intake U us time ≡ forward_intake T us time

module _ (c : Counts) (t : Tables) (d : Counts) (u : Tables) (s : SameTraces (trail_of c t) (trail_of d u)) (p : is_sound (capacity_of t) (trail_of c t) ≡ true)
    (q : is_sound (capacity_of u) (trail_of d u) ≡ true) where
  sound_same : is_sound (capacity_of u) (trail_of d u) ≡ is_sound (capacity_of t) (trail_of c t)
  sound_same = q ∙ sym p

  -- A trace

  checked-same : (xs work marks : List ℕ) → first_of (trace_checks d u xs work marks) ≡ first_of (trace_checks c t xs work marks)
  unfolding trace_checks
  checked-same xs work marks = λ j.
      first_of (
      check (not (sound_same j)) Unsound
      ∷ (undeclared_checks (s.trail.entities j) xs
      ++ (check (ltb (length work) (s.versions j)) BufferShort ∷ check (ltb (length marks) (s.trail.entities j)) BufferShort ∷ []))
      )

  module _ (x time : ℕ) (work marks : List ℕ) where
    backward_answer : (backward_of d u x time work marks).answer ≡ (backward_of c t x time work marks).answer
    unfolding backward_of
    backward_answer =
        rw (checked-same (x ∷ []) work marks)
        (if_refused-same (λ (b : BackwardTrace). b.answer) (first_of (trace_checks c t (x ∷ []) work marks)) _ _ _
        (λ h. λ j. record { refusal = 0; count = ones (s.backward x time (passed_entity c t x work marks h) j) }))

    backward_marks : (backward_of d u x time work marks).marks ≡ (backward_of c t x time work marks).marks
    unfolding backward_of
    backward_marks =
        rw (checked-same (x ∷ []) work marks)
        (if_refused-same (λ (b : BackwardTrace). b.marks) (first_of (trace_checks c t (x ∷ []) work marks)) _ _ _ (λ h. ap (λ (m : List ℕ). overlaid m marks) (s.backward x time (passed_entity c t x work marks h))))

  module _ (us : List ℕ) (time : ℕ) (work marks : List ℕ) where
    forward_answer : (forward_of d u us time work marks).answer ≡ (forward_of c t us time work marks).answer
    unfolding forward_of
    forward_answer =
        rw (checked-same us work marks)
        (if_refused-same (λ (b : ForwardTrace). b.answer) (first_of (trace_checks c t us work marks)) _ _ _
        (λ h. λ j. record { refusal = 0; count = ones (s.forward us time (passed_entities c t us work marks h) j); intake = s.intake us time (passed_entities c t us work marks h) j }))

    forward_marks : (forward_of d u us time work marks).marks ≡ (forward_of c t us time work marks).marks
    unfolding forward_of
    forward_marks =
        rw (checked-same us work marks)
        (if_refused-same (λ (b : ForwardTrace). b.marks) (first_of (trace_checks c t us work marks)) _ _ _ (λ h. ap (λ (m : List ℕ). overlaid m marks) (s.forward us time (passed_entities c t us work marks h))))

  -- The kept log

  declaration-same : (x : ℕ) → x < c.entities → declaration_record (trail_of d u) x ≡ declaration_record (trail_of c t) x
  declaration-same x l = λ j. records.Declaration (record { sort = declared_sort (s.trail.sorts x l j); entity = entity_no x })

  version_same : log_version (trail_of d u) ≡ log_version (trail_of c t)
  unfolding log_version
  version_same =
      ap (λ (k : ℕ). cond (eqb k 0) 1 signing_version) (signed_same (trail_of d u) (trail_of c t) (sym s.trail.entities) s.trail.sorts)

  log_bytes-same : log_bytes (trail_of d u) ≡ log_bytes (trail_of c t)
  unfolding log_bytes
  log_bytes-same =
      let a = ap (encoded_below (declaration_record (trail_of d u))) s.trail.entities ∙ encoded_below-same _ _ c.entities declaration-same in
      let b = ap (encoded_below (event_record (trail_of d u))) s.trail.edges ∙ encoded_below-same _ _ c.edges s.trail.events in
      let v = version_same in
      let e = ap (signatures_below (trail_of d u).entity) s.trail.entities ∙ signatures_below-same _ _ c.entities s.trail.sorts in
      λ j. header_bytes (v j) ++ (a j ++ (b j ++ e j))

  log-same : (out : List ℕ) → kept_log_of d u out ≡ kept_log_of c t out
  unfolding kept_log_of log_checks
  log-same out = λ j.
      let x = first_of (check (not (sound_same j)) Unsound ∷ check (ltb (length out) (length (log_bytes-same j))) OutputShort ∷ []) in
      if_refused x (kept_log (record { refusal = number_of x; length = 0 }) out)
      (kept_log (record { refusal = 0; length = length (log_bytes-same j) }) (overlaid (log_bytes-same j) out))

  pub same-calls : SameCalls c t d u
  same-calls = record {
    backward_answer = backward_answer;
    backward_marks = backward_marks;
    forward_answer = forward_answer;
    forward_marks = forward_marks;
    log = log-same;
  }
