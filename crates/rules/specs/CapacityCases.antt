-- Document 01, "Tables": "Capacity is the whole rows lent, at most 4,096 entities, 65,536 versions, 262,144 edges." Rows on
-- both sides of each bound. The proof is in proofs/CapacityCases.antt.
use Rattle.std.specs.Prelude.{ℕ, ◌≡◌, true, false, [], ◌∷◌, map, replicate}
use Rattle.refusals.specs.Refusals.{first_of, number_of}
use Rattle.rows.specs.Rows.{entity_row, version_row, edge_row, entity_no, entity_at, version_at, edge_at}
use Rattle.rows.specs.Capacity.{entity_capacity, version_capacity, edge_capacity}
use Rattle.record.specs.declared.Kind.TheVariants.{Write}
use Rattle.record.specs.declared.Record.TheVariants as records
use Rattle.rules.specs.declared.Decision.{Decision}
use Rattle.rules.specs.declared.Decision.TheVariants.{Repeat, Widen, Renew}
use Rattle.rules.specs.Trail.{tables, Capacity, capacity_of, Trail, trail_of, counts}
use Rattle.rules.specs.Decide.{edge_no}
use Rattle.rules.specs.Record.{event_refusals, refusal_of}
use Rattle.rules.specs.Sound.{sound_counts}
use Rattle.rules.specs.Order.{full}

abbrev pub largest : Capacity
largest = record { entities = 4096; versions = 65536; edges = 262144 }

-- the rows of `full`, under counts of e entities, v versions and d edges
abbrev pub counted : ℕ → ℕ → ℕ → Trail
counted e v d = trail_of (counts e v d 262144 5) full

-- the refusal of a declaration of the next entity; of a write by subject 1 to object 0, of which d becomes
abbrev pub declaration_at : ℕ → ℕ → ℕ
declaration_at e v = number_of (refusal_of largest (counted e v 0) (records.Declaration (record { sort = 0; entity = entity_no e })))

abbrev pub write_at : ℕ → ℕ → Decision → ℕ
write_at v n d = number_of (first_of (event_refusals largest (counted 2 v n) (record { kind = Write; source = entity_no 1; target = entity_no 0; time = 6 }) d))

pub record CapacityCases : Type 0 where
  -- a part of a row at the end of a table is no row
  pub whole_entity_rows : map (λ n. entity_capacity (replicate n 0)) (0 ∷ 1 ∷ 2 ∷ 3 ∷ 4 ∷ []) ≡ 0 ∷ 0 ∷ 1 ∷ 1 ∷ 2 ∷ []
  pub whole_version_rows : map (λ n. version_capacity (replicate n 0)) (0 ∷ 3 ∷ 4 ∷ 7 ∷ 8 ∷ []) ≡ 0 ∷ 0 ∷ 1 ∷ 1 ∷ 2 ∷ []
  pub whole_edge_rows : map (λ n. edge_capacity (replicate n 0)) (0 ∷ 5 ∷ 6 ∷ 11 ∷ 12 ∷ []) ≡ 0 ∷ 0 ∷ 1 ∷ 1 ∷ 2 ∷ []
  pub each_table : capacity_of (tables (replicate 4 0) (replicate 12 0) (replicate 30 0)) ≡ record { entities = 2; versions = 3; edges = 5 }
  -- past its end a table reads as 0
  pub past_end_entity : entity_at [] 0 ≡ entity_row 0 0
  pub past_end_version : version_at [] 0 ≡ version_row 0 0 0 0
  pub past_end_edge : edge_at [] 0 ≡ edge_row 0 0 0 0 0 0
  -- tables of one number less than the most rows, of just those, and of one row more
  pub entities_below : entity_capacity (replicate 8191 0) ≡ 4095
  pub entities_most : entity_capacity (replicate 8192 0) ≡ 4096
  pub entities_above : entity_capacity (replicate 8194 0) ≡ 4096
  pub versions_below : version_capacity (replicate 262143 0) ≡ 65535
  pub versions_most : version_capacity (replicate 262144 0) ≡ 65536
  pub versions_above : version_capacity (replicate 262148 0) ≡ 65536
  pub edges_below : edge_capacity (replicate 1572863 0) ≡ 262143
  pub edges_most : edge_capacity (replicate 1572864 0) ≡ 262144
  pub edges_above : edge_capacity (replicate 1572870 0) ≡ 262144
  -- the largest tables, one row left and none
  pub last_entity : map (λ e. declaration_at e 65535) (4095 ∷ 4096 ∷ []) ≡ 0 ∷ 10 ∷ []
  pub last_version : map (declaration_at 4095) (65535 ∷ 65536 ∷ []) ≡ 0 ∷ 11 ∷ []
  pub last_edge : map (λ n. write_at 65536 n Widen) (262143 ∷ 262144 ∷ []) ≡ 0 ∷ 12 ∷ []
  pub last_edge_renewed : map (λ n. write_at 65535 n Renew) (262143 ∷ 262144 ∷ []) ≡ 0 ∷ 12 ∷ []
  pub last_version_renewed : map (λ v. write_at v 262143 Renew) (65535 ∷ 65536 ∷ []) ≡ 0 ∷ 11 ∷ []
  pub repeat_at_full : write_at 65536 262144 (Repeat (edge_no 0)) ≡ 0
  -- "each count is within capacity"
  pub counts_most : sound_counts largest (counts 4096 65536 262144 262144 0) ≡ true
  pub entities_past : sound_counts largest (counts 4097 65536 262144 262144 0) ≡ false
  pub versions_past : sound_counts largest (counts 4096 65537 262144 262144 0) ≡ false
  pub edges_past : sound_counts largest (counts 4096 65536 262145 262145 0) ≡ false
