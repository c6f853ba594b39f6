-- What the tests of counts, entities and versions give to those after them.
use Prim.Native.Nat.{ℕ, ◌≤◌}
use native.Mathlib.Omega.{arith}
use mathlib.Core.Path.{◌≡◌, sym, ◌∙◌}
use mathlib.Core.Bool.{Bool, true, ◌&&◌}
use mathlib.Core.List.{List}
use lib.Dec.{eqb}
use lib.ListN.{length}
use Rattle.rows.specs.declared.Counts.{Counts}
use Rattle.rows.specs.Rows.{edge_at}
use Rattle.rows.specs.Capacity.{most_versions, edge_capacity}
use Rattle.rows.proofs.Capacity.{entities_most, versions_most}
use Rattle.rules.specs.Trail.{Tables, Trail, capacity_of, trail_of}
use Rattle.rules.specs.Sound.{all_below, count_sum, sound_counts, version_test, edge_test, is_sound}
use Rattle.soundness.specs.Facts.{CountFacts}
use Rattle.soundness.specs.Parts.{Owners, RowsReady, VersionsReady, coded_test}
use Rattle.soundness.proofs.Facts.{counts_facts}
use Rattle.soundness.proofs.Coded.{coded_is}

-- the counts passed: the longer array has room for a code of each version
pub room_most : (c : Counts) (t : Tables) → sound_counts (capacity_of t) c ≡ true → c.versions ≤ most_versions
room_most c t p = let v = (counts_facts _ c p).versions_in in let w = versions_most t.versions in omega arith

module _ (c : Counts) (t : Tables) (owners₀ : List ℕ) (f : RowsReady c t owners₀) where
  abbrev T : Trail
  T = trail_of c t

  counts_in : CountFacts (capacity_of t) c
  counts_in = counts_facts _ c f.counts

  pub edges_in : c.edges ≤ edge_capacity t.edges
  edges_in = counts_in.edges_in

  pub versions_ready : VersionsReady c t.entities t.versions owners₀
  versions_ready =
      let e = entities_most t.entities in
      let i = counts_in.entities_in in
      record { entities_in = omega arith; versions_in = counts_in.versions_in; room = f.room }

  module _ (owners : List ℕ) where
    pub codes_in : length owners ≡ length owners₀ → c.versions ≤ length owners
    codes_in l = let h = f.room in omega arith

    -- the test of the edges by codes gives what is left of `is_sound`
    pub coded_sound : (r : Bool) → r ≡ all_below (version_test T) c.versions → (r ≡ true → Owners T c.versions owners) → r ≡ true → (u : Bool)
        → u ≡ (all_below (coded_test c owners (edge_at t.edges)) c.edges && eqb (count_sum (edge_at t.edges) c.edges) c.accepted)
        → u ≡ is_sound (capacity_of t) T
    unfolding is_sound
    coded_sound r v o h u q =
        let d : all_below (coded_test c owners (edge_at t.edges)) c.edges ≡ all_below (edge_test T) c.edges = coded_is T owners (o h) c.edges in
        rw (f.counts, f.entities, sym v ∙ h, ← d) q
