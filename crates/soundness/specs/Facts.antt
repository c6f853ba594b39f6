-- What sound tables (document 01, "Tables"; document 02, 2.1, 2.4 and 2.5) give for each row.
use Rattle.std.specs.Prelude.{ℕ, suc, ◌≤◌, ◌<◌, ◌≡◌, true}
use Rattle.rows.specs.declared.Counts.{Counts}
use Rattle.record.specs.Layout.{most_kind}
use Rattle.rules.specs.Trail.{Capacity, Trail, none, most_accepted, latest_of, owner_of}
use Rattle.rules.specs.Sound.{signed_sort, source_fits, target_fits, count_sum}

pub record CountFacts (cap : Capacity) (c : Counts) : Type 0 where
  pub entities_in : c.entities ≤ cap.entities
  pub versions_in : c.versions ≤ cap.versions
  pub edges_in : c.edges ≤ cap.edges
  pub edges_accepted : c.edges ≤ c.accepted
  pub accepted_most : c.accepted ≤ most_accepted

pub record EntityFacts (T : Trail) (x : ℕ) : Type 0 where
  pub sort_in : (T.entity x).sort ≤ signed_sort
  pub latest_in : latest_of T x < T.counts.versions
  pub latest_owner : owner_of T (latest_of T x) ≡ x

pub record VersionFacts (T : Trail) (k : ℕ) : Type 0 where
  pub owner_in : owner_of T k < T.counts.entities
  pub start_end : (T.version k).start ≤ (T.version k).end
  pub end_last : (T.version k).end ≤ T.counts.last
  -- previous is none exactly when start is 0
  pub first : (T.version k).start ≡ 0 → (T.version k).previous.0 ≡ none
  pub previous_in : ((T.version k).start ≡ 0 → ⊥) → (T.version k).previous.0 < k
  pub previous_owner : ((T.version k).start ≡ 0 → ⊥) → owner_of T (T.version k).previous.0 ≡ owner_of T k
  pub previous_start : ((T.version k).start ≡ 0 → ⊥) → (T.version (T.version k).previous.0).start ≤ (T.version k).start

pub record EdgeFacts (T : Trail) (k : ℕ) : Type 0 where
  pub from_in : (T.edge k).from.0 < T.counts.versions
  pub to_in : (T.edge k).to.0 < T.counts.versions
  pub apart : owner_of T (T.edge k).from.0 ≡ owner_of T (T.edge k).to.0 → ⊥
  pub kind_low : 1 ≤ (T.edge k).kind
  pub kind_high : (T.edge k).kind ≤ most_kind
  pub source_fits_lem : source_fits (T.edge k).kind (T.entity (owner_of T (T.edge k).from.0)).sort ≡ true
  pub target_fits_lem : target_fits (T.edge k).kind (T.entity (owner_of T (T.edge k).to.0)).sort ≡ true
  pub time_low : 1 ≤ (T.edge k).time
  pub time_last : (T.edge k).time ≤ T.counts.last
  pub count_low : 1 ≤ (T.edge k).count
  pub last_low : (T.edge k).time ≤ (T.edge k).last
  pub last_high : (T.edge k).last ≤ T.counts.last

pub record RowFacts (T : Trail) : Type 0 where
  pub entity : (x : ℕ) → x < T.counts.entities → EntityFacts T x
  pub version : (k : ℕ) → k < T.counts.versions → VersionFacts T k
  pub edge : (k : ℕ) → k < T.counts.edges → EdgeFacts T k
  -- edge times do not fall
  pub times_ordered : (k : ℕ) → suc k < T.counts.edges → (T.edge k).time ≤ (T.edge (suc k)).time
  -- the counts sum to accepted
  pub sum : count_sum T.edge T.counts.edges ≡ T.counts.accepted
