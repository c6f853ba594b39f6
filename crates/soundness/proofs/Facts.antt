-- Tables that pass the test have the facts of every row.
use Prim.Native.Nat.{ℕ, suc, ◌≤◌, ◌<◌}
use mathlib.Core.Path.{◌≡◌}
use mathlib.Core.Bool.{true}
use borrow.Author.Tests.{ltb-true, leb-true, eqb-true, eqb-false, not-true, eq-eqb, ne_eqb}
use Rattle.rows.specs.declared.Counts.{Counts}
use Rattle.rules.specs.Trail.{Capacity, Trail, none, owner_of}
use Rattle.rules.specs.Sound.{all_below, may_follow, time_before, count_sum, sound_counts, sound_entity, sound_previous, sound_version, entity_test, version_test, edge_test, is_sound}
use Rattle.soundness.specs.Facts.{CountFacts, EntityFacts, VersionFacts, EdgeFacts, RowFacts}
use Rattle.soundness.proofs.All.{and_parts, every_at, all_at}
use Rattle.soundness.proofs.Edges.{time_before_suc}

pub counts_facts : (cap : Capacity) (c : Counts) → sound_counts cap c ≡ true → CountFacts cap c
unfolding sound_counts
counts_facts cap c h =
    let q = every_at _ h in
    record {
      entities_in = leb-true _ _ (q 0);
      versions_in = leb-true _ _ (q 1);
      edges_in = leb-true _ _ (q 2);
      edges_accepted = leb-true _ _ (q 3);
      accepted_most = leb-true _ _ (q 4);
    }

module _ (T : Trail) where
  pub entity_facts : (x : ℕ) → entity_test T x ≡ true → EntityFacts T x
  unfolding entity_test sound_entity
  entity_facts x h =
      let q = every_at _ h in
      record { sort_in = leb-true _ _ (q 0); latest_in = ltb-true _ _ (q 1); latest_owner = eqb-true _ _ (q 2) }

  module _ (k : ℕ) where
    abbrev previous : ℕ
    previous = (T.version k).previous.0

    abbrev PreviousFacts : Type 0
    PreviousFacts = (previous < k) × (owner_of T previous ≡ owner_of T k) × ((T.version previous).start ≤ (T.version k).start)

    first_of : sound_previous k (T.version k) (T.version previous) ≡ true → (T.version k).start ≡ 0 → previous ≡ none
    unfolding sound_previous
    first_of h z = eqb-true _ _ (rw (eq-eqb (T.version k).start 0 z) at h)

    later_of : sound_previous k (T.version k) (T.version previous) ≡ true → ((T.version k).start ≡ 0 → ⊥) → PreviousFacts
    unfolding sound_previous may_follow
    later_of h z =
        let q = every_at _ (rw (ne_eqb (T.version k).start 0 z) at h) in
        (ltb-true _ _ (q 0), eqb-true _ _ (q 1), leb-true _ _ (q 2))

    pub version_facts : version_test T k ≡ true → VersionFacts T k
    unfolding version_test sound_version
    version_facts h =
        let q = every_at _ h in
        let p = q 3 in
        record {
          owner_in = ltb-true _ _ (q 0);
          start_end = leb-true _ _ (q 1);
          end_last = leb-true _ _ (q 2);
          first = first_of p;
          previous_in = λ z. (later_of p z).0;
          previous_owner = λ z. (later_of p z).1;
          previous_start = λ z. (later_of p z).2;
        }

    pub edge_facts : edge_test T k ≡ true → EdgeFacts T k
    unfolding edge_test
    edge_facts h =
        let q = every_at _ h in
        record {
          from_in = ltb-true _ _ (q 0);
          to_in = ltb-true _ _ (q 1);
          apart = eqb-false _ _ (not-true _ (q 2));
          kind_low = leb-true _ _ (q 3);
          kind_high = leb-true _ _ (q 4);
          source_fits_lem = q 5;
          target_fits_lem = q 6;
          time_low = leb-true _ _ (q 7);
          time_last = leb-true _ _ (q 9);
          count_low = leb-true _ _ (q 10);
          last_low = leb-true _ _ (q 11);
          last_high = leb-true _ _ (q 12);
        }

    pub edge-after : edge_test T k ≡ true → time_before T.edge k ≤ (T.edge k).time
    unfolding edge_test may_follow
    edge-after h = leb-true _ _ (every_at _ h 8)

module _ (cap : Capacity) (T : Trail) (s : is_sound cap T ≡ true) where
  parts : (sound_counts cap T.counts ≡ true) × (all_below (entity_test T) T.counts.entities ≡ true)
      × (all_below (version_test T) T.counts.versions ≡ true) × (all_below (edge_test T) T.counts.edges ≡ true)
      × (count_sum T.edge T.counts.edges ≡ T.counts.accepted)
  unfolding is_sound
  parts =
      let o = and_parts _ _ s in
      let p = and_parts _ _ o.0 in
      let q = and_parts _ _ p.0 in
      let r = and_parts _ _ q.0 in
      (r.0, r.1, q.1, p.1, eqb-true _ _ o.1)

  pub sound_counts_lem : CountFacts cap T.counts
  sound_counts_lem = counts_facts cap T.counts parts.0

  pub sound_rows : RowFacts T
  sound_rows = record {
    entity = λ x l. entity_facts T x (all_at _ _ parts.1 x l);
    version = λ k l. version_facts T k (all_at _ _ parts.2 k l);
    edge = λ k l. edge_facts T k (all_at _ _ parts.3 k l);
    times_ordered = λ k l. let h = edge-after T (suc k) (all_at _ _ parts.3 (suc k) l) in rw time_before_suc at h;
    sum = parts.4;
  }
