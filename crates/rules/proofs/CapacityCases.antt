-- Capacity at its bounds: every row is computed by the definitions. The length of a large table is that of `replicate`, by
-- its law, and not counted.
use Prim.Native.Nat.{ℕ, ◌/◌, min}
use mathlib.Core.Path.{◌≡◌, refl, ap}
use lib.ListN.{replicate, length-replicate}
use Rattle.rows.specs.Rows.{entity_width, version_width, edge_width}
use Rattle.rows.specs.Capacity.{most_entities, most_versions, most_edges, entity_capacity, version_capacity, edge_capacity}
use Rattle.rules.specs.CapacityCases.{CapacityCases}
use Rattle.rules.proofs.Computed.{computed}

entity_capacity_lem : (n : ℕ) → entity_capacity (replicate n 0) ≡ min (n / entity_width) most_entities
unfolding entity_capacity
entity_capacity_lem n = ap (λ k. min (k / entity_width) most_entities) (length-replicate {A = ℕ} n 0)

version_capacity_lem : (n : ℕ) → version_capacity (replicate n 0) ≡ min (n / version_width) most_versions
unfolding version_capacity
version_capacity_lem n = ap (λ k. min (k / version_width) most_versions) (length-replicate {A = ℕ} n 0)

edge_capacity_lem : (n : ℕ) → edge_capacity (replicate n 0) ≡ min (n / edge_width) most_edges
unfolding edge_capacity
edge_capacity_lem n = ap (λ k. min (k / edge_width) most_edges) (length-replicate {A = ℕ} n 0)

pub capacity_cases : CapacityCases
unfolding computed
capacity_cases = record {
  whole_entity_rows = refl;
  whole_version_rows = refl;
  whole_edge_rows = refl;
  each_table = refl;
  past_end_entity = refl;
  past_end_version = refl;
  past_end_edge = refl;
  entities_below = entity_capacity_lem 8191;
  entities_most = entity_capacity_lem 8192;
  entities_above = entity_capacity_lem 8194;
  versions_below = version_capacity_lem 262143;
  versions_most = version_capacity_lem 262144;
  versions_above = version_capacity_lem 262148;
  edges_below = edge_capacity_lem 1572863;
  edges_most = edge_capacity_lem 1572864;
  edges_above = edge_capacity_lem 1572870;
  last_entity = refl;
  last_version = refl;
  last_edge = refl;
  last_edge_renewed = refl;
  last_version_renewed = refl;
  repeat_at_full = refl;
  counts_most = refl;
  entities_past = refl;
  versions_past = refl;
  edges_past = refl;
}
