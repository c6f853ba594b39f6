-- Two trails with the same rows in use, whatever stands past the counts; and two with the same but for sorts.
use Rattle.std.specs.Prelude.{ℕ, ◌<◌, ◌≡◌}
use Rattle.rules.specs.Trail.{Trail, latest_of}

pub record SameRows (T T' : Trail) : Type 0 where
  pub entities : T.counts.entities ≡ T'.counts.entities
  pub versions : T.counts.versions ≡ T'.counts.versions
  pub edges : T.counts.edges ≡ T'.counts.edges
  pub entity_rows : (k : ℕ) → k < T.counts.entities → T.entity k ≡ T'.entity k
  pub version_rows : (k : ℕ) → k < T.counts.versions → T.version k ≡ T'.version k
  pub edge_rows : (k : ℕ) → k < T.counts.edges → T.edge k ≡ T'.edge k

-- the same counts, and the same rows in use but for the sorts of the entities
pub record SameButSorts (T T' : Trail) : Type 0 where
  pub counts : T.counts ≡ T'.counts
  pub latest : (x : ℕ) → x < T.counts.entities → latest_of T x ≡ latest_of T' x
  pub version_rows : (k : ℕ) → k < T.counts.versions → T.version k ≡ T'.version k
  pub edge_rows : (k : ℕ) → k < T.counts.edges → T.edge k ≡ T'.edge k
