-- Parts of the test of sound tables that single functions compute. Edges are tested by the codes of the entities at their ends.
use Rattle.std.specs.Prelude.{ℕ, ◌+◌, ◌-◌, ◌*◌, ◌%◌, ◌≤◌, ◌<◌, ◌≡◌, Bool, true, not, ◌||◌, cond, List, [], ◌∷◌, length, get_or, eqb, leb, ltb}
use Rattle.rows.specs.declared.Counts.{Counts}
use Rattle.rows.specs.declared.EntityRow.{EntityRow}
use Rattle.rows.specs.declared.EdgeRow.{EdgeRow}
use Rattle.rows.specs.Capacity.{most_entities, version_capacity}
use Rattle.record.specs.Layout.{most_kind, kind_no}
use Rattle.record.specs.declared.Kind.TheVariants.{Write, Fork}
use Rattle.rules.specs.Trail.{Tables, Trail, capacity_of, trail_of, owner_of}
use Rattle.rules.specs.Sound.{every, all_below, sound_counts, entity_test, source_fits, target_fits, may_follow}
use Rattle.rules.specs.KeptLog.{declared_sort}

-- the sort, as declared, that a kind asks for: of its source, and of its target
abbrev pub source_sort : ℕ → ℕ
source_sort kind = cond (eqb kind (kind_no Write) || eqb kind (kind_no Fork)) 1 0

abbrev pub target_sort : ℕ → ℕ
target_sort kind = cond (eqb kind (kind_no Write)) 0 1

-- the code of entity x: twice its number, and 1 if it is a subject
abbrev pub code_of : (ℕ → EntityRow) → ℕ → ℕ
code_of E x = 2 * x + declared_sort (E x).sort

-- for each of the first n versions, the code of its entity
abbrev pub Owners : Trail → ℕ → List ℕ → Type 0
Owners T n owners = (k : ℕ) → k < n → get_or owners k 0 ≡ code_of T.entity (owner_of T k)

-- the counts and the entities passed, and there is a place for the code of each version's entity
pub record RowsReady (c : Counts) (t : Tables) (owners : List ℕ) : Type 0 where
  pub counts : sound_counts (capacity_of t) c ≡ true
  pub entities : all_below (entity_test (trail_of c t)) c.entities ≡ true
  pub room : c.versions ≤ length owners

-- what of that the test of the versions relies on
pub record VersionsReady (c : Counts) (entities versions owners : List ℕ) : Type 0 where
  pub entities_in : c.entities ≤ most_entities
  pub versions_in : c.versions ≤ version_capacity versions
  pub room : c.versions ≤ length owners

-- kind is one of an event, and asks for a source and a target that are declared with these sorts
unfoldable pub sorts_fit : ℕ → ℕ → ℕ → Bool
sorts_fit kind s t = every (leb 1 kind ∷ source_fits kind s ∷ target_fits kind t ∷ [])

-- an edge of row e, whose time may not be below b, from an entity of code x to one of code y; its last time is up to last, and so its time is too
unfoldable pub sound_codes : ℕ → ℕ → EdgeRow → ℕ → ℕ → Bool
sound_codes last b e x y =
    every
    (sorts_fit e.kind (x % 2) (y % 2)
    ∷ not (eqb x y)
    ∷ may_follow b e.time
    ∷ leb 1 e.count
    ∷ leb e.time e.last
    ∷ leb e.last last
    ∷ [])

unfoldable pub coded_edge : Counts → List ℕ → ℕ → EdgeRow → Bool
coded_edge c owners b e =
    every
    (ltb e.from.0 c.versions
    ∷ ltb e.to.0 c.versions
    ∷ leb e.kind most_kind
    ∷ sound_codes c.last b e (get_or owners e.from.0 0) (get_or owners e.to.0 0)
    ∷ [])

-- the least time that edge k may have: 1 if it is the first, else the time of the edge before, which is 1 or more if the edges before passed
unfoldable pub least_time : (ℕ → EdgeRow) → ℕ → ℕ
least_time E k = cond (eqb k 0) 1 (E (k - 1)).time

-- the test of edge k
unfoldable pub coded_test : Counts → List ℕ → (ℕ → EdgeRow) → ℕ → Bool
coded_test c owners E k = coded_edge c owners (least_time E k) (E k)
