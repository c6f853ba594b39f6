-- Demand 2's round trip: the kept log, taken into a fresh trail with as many rows, yields the same entities, kept events and traces.
use Rattle.std.specs.Prelude.{Ok, Err}
use Prim.Native.Nat.{ℕ, ◌+◌, ◌<◌}
use native.Mathlib.Omega.{arith}
use mathlib.Core.Path.{◌≡◌, refl, sym, ◌∙◌, ap, subst}
use mathlib.Core.Bool.{Bool, true, false, cond}
use mathlib.Core.List.{List, reverse}
use lib.ListN.{length}
use lib.Dec.{ltb}
use Rattle.refusals.specs.declared.Refusal.TheVariants.{OutputShort}
use Rattle.refusals.specs.Refusals.{Checked}
use Rattle.refusals.specs.Refusals.{refusal_no, first_of, number_of}
use Rattle.rows.specs.declared.Counts.{Counts}
use Rattle.rows.specs.declared.EntityRow.{EntityRow}
use Rattle.rows.specs.declared.EdgeRow.{EdgeRow}
use Rattle.record.specs.declared.Event.{Event}
use Rattle.record.specs.declared.Record.{Record}
use Rattle.record.specs.Header.{header_checks}
use Rattle.rules.specs.Trail.{Tables, capacity_of, Trail, trail_of, fresh_counts}
use Rattle.rules.specs.Sound.{is_sound, is_subject}
use Rattle.rules.specs.PlainList.{worked, items_of}
use Rattle.rules.specs.History.{kept_events}
use Rattle.rules.specs.Batch.{if_refused, contents_of, batch_of}
use Rattle.rules.specs.Marks.{overlaid}
use Rattle.rules.specs.KeptLog.{KeptLog, log_bytes, log_checks, kept_log, kept_log_of, signed_in}
use Rattle.rules.specs.Calls.{Call, Held, held, held_after, Lent, AllLent, EnoughRows, plain_after}
use Rattle.soundness.proofs.Facts.{sound_counts_lem}
use Rattle.causality.specs.Statements.{Logged}
use Rattle.kept_log.specs.LogRecords.{log_records, wholly}
use Rattle.kept_log.proofs.LogRecords.{length-log_records, length-log_bytes}
use Rattle.kept_log.proofs.ReadBack.{log-taken-header, log_taken_contents}
use Rattle.agreement.specs.RoundTrip.{TakenAgain, LogAgrees, RoundTrip}
use Rattle.agreement.proofs.Matching.{Matches, matches, lent_alike, lent_rows, lent_sound, Ready, capacity_within}
use Rattle.agreement.proofs.Held.{Known, known}
use Rattle.agreement.proofs.Left.{own_lent, left_by}
use Rattle.agreement.proofs.KeptOnly.{all_kept, kept_events-all_kept}
use Rattle.agreement.proofs.Counted.{AllKept, all_kept_are, worked_own}
use Rattle.agreement.proofs.Relogged.{relogged, TakenBy}
use Rattle.agreement.proofs.Again.{Regrown, regrown}
use Rattle.agreement.proofs.Before.{Before}
use Rattle.agreement.proofs.TracesAgain.{backward_again, forward_again, intake_again}
use Rattle.agreement.proofs.SameCalls.{SameTraces, same-calls}
use Rattle.agreement.proofs.TakenAll.{batch_all, batch-refusal, batch-taken}
use Rattle.agreement.proofs.Log.{events-same, log_records-reverse}
use Rattle.agreement.proofs.SignedAgain.{with_signatures, SignedAgain, sign_again}
use Rattle.agreement.proofs.Changed.{Alike}
use Rattle.soundness.proofs.Counted.{signed_same}

-- The checks of a writer over sound tables: it is refused with 15, or passes
abbrev short : Bool → Checked
short b = cond b (Err OutputShort) (Ok tt)

-- trails with the same counts and sorts have logs of the same length
length_alike : (T U : Trail) → U.counts ≡ T.counts → ((x : ℕ) → x < U.counts.entities → (T.entity x).sort ≡ (U.entity x).sort)
    → length (log_bytes T) ≡ length (log_bytes U)
length_alike T U q h =
    let e = ap (λ (c : Counts). c.entities) q in
    omega (arith, length-log_bytes T, length-log_bytes U, signed_same T U e h, e, ap (λ (c : Counts). c.edges) q)

module _ (c : Counts) (t : Tables) (out : List ℕ) (s : is_sound (capacity_of t) (trail_of c t) ≡ true) where
  abbrev answered : Bool → KeptLog
  answered b =
      if_refused {A = KeptLog} (short b) (kept_log (record { refusal = number_of (short b); length = 0 }) out)
      (kept_log (record { refusal = 0; length = length (log_bytes (trail_of c t)) }) (overlaid (log_bytes (trail_of c t)) out))

  answered_number : (b : Bool) → (answered b).answer.refusal ≡ cond b (refusal_no OutputShort) 0
  answered_number true = refl
  answered_number false = refl

  -- the log is as long as the plain list says
  log-refusal : (rs : List Record) → Alike (worked rs) (trail_of c t)
      → (kept_log_of c t out).answer.refusal ≡ cond (ltb (length out) (length (log_bytes (worked rs)))) (refusal_no OutputShort) 0
  unfolding kept_log_of log_checks first_of
  log-refusal rs a =
      let e = length_alike (trail_of c t) (worked rs) a.counts (λ x l. ap (λ (r : EntityRow). r.sort) (sym (a.rows.entity_rows x l))) in
      rw s (answered_number (ltb (length out) (length (log_bytes (trail_of c t)))) ∙ ap (λ (n : ℕ). cond (ltb (length out) n) (refusal_no OutputShort) 0) e)

  log_passed : (kept_log_of c t out).answer.refusal ≡ 0 → first_of (log_checks c t out) ≡ Ok tt
  unfolding kept_log_of log_checks first_of
  log_passed = rw s (go (ltb (length out) (length (log_bytes (trail_of c t)))))
    where
      go : (b : Bool) → (answered b).answer.refusal ≡ 0 → short b ≡ Ok tt
      go true q = absurd (omega arith)
      go false q = refl

-- Tables lent what stands in h, and a fresh trail that takes in their log

module _ (h : Held) (rs : List Record) (m : Matches h rs) (t : Tables) (l : Lent h t) (lent : Tables) (room : EnoughRows (capacity_of lent) h.counts) where
  abbrev T : Trail
  T = trail_of h.counts t

  abbrev ks : List Event
  ks = kept_events (items_of rs)

  abbrev R : List Record
  R = with_signatures T.entity T.counts.entities (relogged T ks)

  first : Known T (worked rs).counts.entities (items_of rs)
  first = known h rs m t l

  before : Before (worked rs) T
  before =
      let a = (lent_alike h rs m t l).rows in
      record {
        entities = omega (arith, a.entities);
        versions = omega (arith, a.entities, a.versions);
        edges = omega (arith, a.edges);
        subjects = λ x i. ap (λ (r : EntityRow). is_subject r.sort) (a.entity_rows x i);
      }

  -- declarations and events, then signatures
  events_again : Regrown (capacity_of lent) T (worked rs) ks
  events_again = regrown T (capacity_of lent) (capacity_within lent) room m.taken before

  signed_again : SignedAgain (capacity_of lent) T.entity T.counts.entities (relogged T ks) R
  signed_again =
      let e = events_again.entities in
      sign_again (capacity_of lent) T.entity (relogged T ks) events_again.by (λ x i. ((lent_rows h rs m t l).entity x (omega arith)).sort_in)
      (λ x i. events_again.sorts x (omega arith)) T.counts.entities (omega arith)

  record Again : Type 0 where
    by : TakenBy (capacity_of lent) R
    items : items_of R ≡ all_kept ks
    entities : (worked R).counts.entities ≡ T.counts.entities
    sorts : (x : ℕ) → x < T.counts.entities → ((worked R).entity x).sort ≡ (T.entity x).sort
    versions : (worked R).counts.versions + (worked rs).counts.entities ≡ (worked rs).counts.versions + T.counts.entities
    edges : (worked R).counts.edges ≡ (worked rs).counts.edges

  again : Again
  again =
      let a = events_again in
      let b = signed_again in
      record {
        by = b.by;
        items = b.items ∙ a.items;
        entities = ap (λ (c : Counts). c.entities) b.counts ∙ a.entities;
        sorts = b.done;
        versions = omega (arith, ap (λ (c : Counts). c.versions) b.counts, a.versions);
        edges = ap (λ (c : Counts). c.edges) b.counts ∙ a.edges;
      }

  module _ (c : Counts) (u : Tables) (y : Ready (capacity_of lent) c u R) where
    abbrev U : Trail
    U = trail_of c u

    second : Known U (worked R).counts.entities (all_kept ks)
    second =
        subst (Known U (worked R).counts.entities) again.items
        (known (held c u) R (record { taken = y.taken; alike = y.alike }) u (own_lent c u (sound_counts_lem (capacity_of u) U y.sound)))

    entities_again : U.counts.entities ≡ T.counts.entities
    entities_again = sym y.alike.rows.entities ∙ again.entities

    -- each edge stands for its own event alone
    own_again : (k : ℕ) → k < T.counts.edges → ((U.edge k).count ≡ 1) × ((U.edge k).last ≡ (U.edge k).time)
    own_again k i =
        let z : k < (worked R).counts.edges = omega (arith, again.edges, (lent_alike h rs m t l).rows.edges) in
        subst (λ (r : EdgeRow). (r.count ≡ 1) × (r.last ≡ r.time)) (y.alike.rows.edge_rows k z)
        (worked_own R (subst AllKept (sym again.items) (all_kept_are ks)) k z)

    same_traces : SameTraces T U
    same_traces =
        let a = (lent_alike h rs m t l).rows in
        record {
          trail = record {
            entities = entities_again;
            sorts = λ x i.
                let z : x < (worked R).counts.entities = omega (arith, again.entities) in
                ap (λ (r : EntityRow). r.sort) (sym (y.alike.rows.entity_rows x z)) ∙ again.sorts x i;
            edges = sym y.alike.rows.edges ∙ again.edges ∙ a.edges;
            events = λ k i.
                events-same T U ks first.faithful.log (subst (Logged U) (kept_events-all_kept ks) second.faithful.log) k (omega (arith, first.faithful.edges));
          };
          versions = omega (arith, y.alike.rows.versions, again.versions, a.entities, a.versions);
          backward = backward_again first second entities_again;
          forward = forward_again first second entities_again;
          intake = intake_again first second entities_again;
        }

  -- the log, as what the writer leaves
  module _ (file : List ℕ) (header : first_of (header_checks file) ≡ Ok tt) (contents : contents_of file ≡ wholly (log_records T)) where
    turned : log_records T ≡ reverse R
    turned = log_records-reverse T ks first.faithful.edges first.faithful.log

    taken_again : TakenAgain h.counts t (batch_of fresh_counts lent file)
    taken_again =
        let q = contents ∙ ap wholly turned in
        let y = batch_all lent file header R again.by q in
        let n : length (reverse R) ≡ T.counts.entities + T.counts.edges + signed_in T = ap length (sym turned) ∙ length-log_records T in
        record {
          refusal = batch-refusal lent file header R again.by q;
          taken = batch-taken lent file header R again.by q ∙ n;
          same = (same_traces _ _ y).trail;
          counts_one = λ k i. (own_again _ _ y k i).0;
          lasts_own = λ k i. (own_again _ _ y k i).1;
          calls = same-calls _ t _ _ (same_traces _ _ y) (lent_sound h rs m t l) y.sound;
        }

held_trip : (cs : List Call) → AllLent cs → (t : Tables) → Lent (held_after cs) t → (out : List ℕ)
    → LogAgrees cs (held_after cs).counts t out (kept_log_of (held_after cs).counts t out)
held_trip cs a t l out =
    let m = matches cs a in
    let c = (held_after cs).counts in
    let s = lent_sound _ _ m t l in
    record {
      refusal = log-refusal c t out s (plain_after cs) (lent_alike _ _ m t l);
      again = λ q small lent room.
          let p = log_passed c t out s q in
          taken_again (held_after cs) (plain_after cs) m t l lent room _ (log-taken-header c t out p) (log_taken_contents c t out p small);
    }

pub round_trip : RoundTrip
round_trip cs c t l out = left_by (λ k. LogAgrees cs k t out (kept_log_of k t out)) l (held_trip cs l.lent t l.rows out)
