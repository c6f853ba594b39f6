-- Writes at rows below n leave the tables from row n on, and their lengths.
use Prim.Native.Nat.{ℕ, ◌*◌, ◌≤◌, ◌<◌}
use native.Mathlib.Omega.{arith}
use mathlib.Core.Path.{refl, ◌∙◌}
use mathlib.Core.List.{List, [], ◌∷◌}
use Rattle.rows.specs.declared.EntityRow.{EntityRow}
use Rattle.rows.specs.declared.VersionRow.{VersionRow}
use Rattle.rows.specs.declared.EdgeRow.{EdgeRow}
use Rattle.rows.specs.Rows.{entity_width, version_width, edge_width, put_entity, put_version, put_edge}
use Rattle.rows.proofs.RowLaws.{length-put_entity, length-put_version, length-put_edge, get_or-put_entity, get_or-put_version, get_or-put_edge}
use Rattle.rules.specs.Trail.{Tables, tables, Capacity}
use Rattle.rules.specs.Record.{RowWrite, to_entity, to_version, to_edge, written}
use Rattle.soundness.specs.Frame.{PastStays}
use Rattle.soundness.proofs.Written.{Within}

pub past_refl : (n : ℕ) (xs : List ℕ) → PastStays n xs xs
past_refl n xs = record { length_same = refl; number_same = λ i l. refl }

pub past_trans : {m n : ℕ} {xs ys zs : List ℕ} → m ≤ n → PastStays m xs ys → PastStays n ys zs → PastStays n xs zs
past_trans h p q = record {
  length_same = q.length_same ∙ p.length_same;
  number_same = λ i l. q.number_same i l ∙ p.number_same i (omega arith);
}

module _ (xs : List ℕ) (k n : ℕ) (l : k < n) where
  past_put_entity : (r : EntityRow) → PastStays (entity_width * n) xs (put_entity xs k r)
  past_put_entity r = record { length_same = length-put_entity xs k r; number_same = λ i h. get_or-put_entity xs k r i (λ _. omega arith) }

  past_put_version : (r : VersionRow) → PastStays (version_width * n) xs (put_version xs k r)
  past_put_version r = record { length_same = length-put_version xs k r; number_same = λ i h. get_or-put_version xs k r i (λ _. omega arith) }

  past_put_edge : (r : EdgeRow) → PastStays (edge_width * n) xs (put_edge xs k r)
  past_put_edge r = record { length_same = length-put_edge xs k r; number_same = λ i h. get_or-put_edge xs k r i (λ _. omega arith) }

-- of all three tables, from row n of each on
pub record AllPastStay (n : Capacity) (t t' : Tables) : Type 0 where
  pub entities : PastStays (entity_width * n.entities) t.entities t'.entities
  pub versions : PastStays (version_width * n.versions) t.versions t'.versions
  pub edges : PastStays (edge_width * n.edges) t.edges t'.edges

pub past_written : (n : Capacity) (t : Tables) (ws : List RowWrite) → Within n ws → AllPastStay n t (written t ws)
past_written n t [] h = record { entities = past_refl _ _; versions = past_refl _ _; edges = past_refl _ _ }
past_written n t (to_entity k r ∷ ws) h =
    let p = past_written n (tables (put_entity t.entities k r) t.versions t.edges) ws h.1 in
    record { entities = past_trans (omega arith) (past_put_entity t.entities k n.entities h.0 r) p.entities; versions = p.versions; edges = p.edges }
past_written n t (to_version k r ∷ ws) h =
    let p = past_written n (tables t.entities (put_version t.versions k r) t.edges) ws h.1 in
    record { entities = p.entities; versions = past_trans (omega arith) (past_put_version t.versions k n.versions h.0 r) p.versions; edges = p.edges }
past_written n t (to_edge k r ∷ ws) h =
    let p = past_written n (tables t.entities t.versions (put_edge t.edges k r)) ws h.1 in
    record { entities = p.entities; versions = p.versions; edges = past_trans (omega arith) (past_put_edge t.edges k n.edges h.0 r) p.edges }
