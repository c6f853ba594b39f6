-- The mark buffer, version by version: a marked version marks its entity.
use Rattle.std.specs.Prelude.{ℕ, zero, suc, ◌≡◌, cond, List, get_or, set, eqb}
use Rattle.rows.specs.declared.VersionRow.{VersionRow}
use Rattle.rules.specs.Trail.{Trail}
use Rattle.rules.specs.Marks.{marks_below, ones, overlaid}

-- of version k
unfoldable pub owner_marked : (ℕ → VersionRow) → List ℕ → ℕ → List ℕ → List ℕ
owner_marked W work k m = cond (eqb (get_or work k 0) 1) (set m (W k).entity.0 1) m

-- of the first n versions
unfoldable pub owners_marked : (ℕ → VersionRow) → List ℕ → ℕ → List ℕ → List ℕ
owners_marked W work zero m = m
owners_marked W work (suc k) m = owner_marked W work k (owners_marked W work k m)

-- from m, the bytes of the entities in use become their marks by the marks of the versions, which makes m', and r counts them
pub record EntitiesMarked (T : Trail) (work m : List ℕ) (r : ℕ) (m' : List ℕ) : Type 0 where
  pub count : r ≡ ones (marks_below T.version work T.counts.versions T.counts.entities)
  pub marks : m' ≡ overlaid (marks_below T.version work T.counts.versions T.counts.entities) m
