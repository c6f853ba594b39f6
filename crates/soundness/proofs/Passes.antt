-- Tables whose rows have the facts pass the test.
use Prim.Native.Nat.{ℕ, zero, suc, ◌≤◌, ◌<◌}
use native.Mathlib.Omega.{arith}
use mathlib.Core.Path.{◌≡◌, refl, sym}
use mathlib.Core.Bool.{Bool, true, false}
use lib.Dec.{eqb}
use borrow.Author.Tests.{lt-ltb, le-leb, eq-eqb, ne_eqb, eqb-true, eqb-false}
use Rattle.rows.specs.declared.Counts.{Counts}
use Rattle.refusals.proofs.Checks.{not_true_of, pick_true, pick_false}
use Rattle.rules.specs.Trail.{Capacity, Trail}
use Rattle.rules.specs.Sound.{may_follow, time_before, sound_counts, sound_entity, sound_previous, sound_version, entity_test, version_test, edge_test, is_sound}
use Rattle.soundness.specs.Facts.{CountFacts, EntityFacts, VersionFacts, EdgeFacts, RowFacts}
use Rattle.std.proofs.lemmas.Bool.{and_from}
use Rattle.soundness.proofs.All.{done, ◌also◌, hold_every, at_all}
use Rattle.soundness.proofs.Edges.{time_before_zero, time_before_suc}

pub counts-pass : (cap : Capacity) (c : Counts) → CountFacts cap c → sound_counts cap c ≡ true
unfolding sound_counts
counts-pass cap c f =
    hold_every (le-leb _ _ f.entities_in also le-leb _ _ f.versions_in also le-leb _ _ f.edges_in also le-leb _ _ f.edges_accepted also le-leb _ _ f.accepted_most also done)

module _ (T : Trail) where
  pub entity_passes : (x : ℕ) → EntityFacts T x → entity_test T x ≡ true
  unfolding entity_test sound_entity
  entity_passes x f = hold_every (le-leb _ _ f.sort_in also lt-ltb _ _ f.latest_in also eq-eqb _ _ f.latest_owner also done)

  module _ (k : ℕ) where
    previous-passes : VersionFacts T k → sound_previous k (T.version k) (T.version (T.version k).previous.0) ≡ true
    unfolding sound_previous may_follow
    previous-passes f = go (eqb (T.version k).start 0) refl
      where
        go : (b : Bool) → eqb (T.version k).start 0 ≡ b → sound_previous k (T.version k) (T.version (T.version k).previous.0) ≡ true
        go true e = sym (pick_true _ _ _ _ e (sym (eq-eqb _ _ (f.first (eqb-true _ _ e)))))
        go false e =
            let z = eqb-false _ _ e in
            sym (pick_false _ _ _ _ e (sym (hold_every (lt-ltb _ _ (f.previous_in z) also eq-eqb _ _ (f.previous_owner z) also le-leb _ _ (f.previous_start z) also done))))

    pub version_passes : VersionFacts T k → version_test T k ≡ true
    unfolding version_test sound_version
    version_passes f =
        hold_every (lt-ltb _ _ f.owner_in also le-leb _ _ f.start_end also le-leb _ _ f.end_last also previous-passes f also done)

    pub edge-passes : EdgeFacts T k → time_before T.edge k ≤ (T.edge k).time → edge_test T k ≡ true
    unfolding edge_test may_follow
    edge-passes f l =
        hold_every
        (lt-ltb _ _ f.from_in
        also lt-ltb _ _ f.to_in
        also not_true_of _ (ne_eqb _ _ f.apart)
        also le-leb _ _ f.kind_low
        also le-leb _ _ f.kind_high
        also f.source_fits_lem
        also f.target_fits_lem
        also le-leb _ _ f.time_low
        also le-leb _ _ l
        also le-leb _ _ f.time_last
        also le-leb _ _ f.count_low
        also le-leb _ _ f.last_low
        also le-leb _ _ f.last_high
        also done)

  module _ (f : RowFacts T) where
    after : (k : ℕ) → k < T.counts.edges → time_before T.edge k ≤ (T.edge k).time
    after zero l = rw (sym (time_before_zero T.edge)) (omega arith)
    after (suc k) l = rw (time_before_suc T.edge k) (f.times_ordered k l)

    pub facts_sound : (cap : Capacity) → CountFacts cap T.counts → is_sound cap T ≡ true
    unfolding is_sound
    facts_sound cap g =
        and_from _ _
        (and_from _ _
        (and_from _ _
        (and_from _ _ (counts-pass cap T.counts g) (at_all _ _ (λ x l. entity_passes x (f.entity x l))))
        (at_all _ _ (λ k l. version_passes k (f.version k l))))
        (at_all _ _ (λ k l. edge-passes k (f.edge k l) (after k l))))
        (eq-eqb _ _ f.sum)
