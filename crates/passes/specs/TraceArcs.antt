-- The arcs of the traces in the order in which a pass follows them: those of the edges, then the version steps of all versions.
-- The first pass takes after each edge the step of the version that it enters, too.
use Rattle.std.specs.Prelude.{ℕ, Bool, not, cond, List, [], ◌∷◌, ◌++◌, eqb}
use Rattle.rows.specs.declared.VersionRow.{VersionRow}
use Rattle.rows.specs.declared.EdgeRow.{EdgeRow}
use Rattle.rules.specs.Trail.{Trail, none}
use Rattle.rules.specs.Marks.{Arc, arc, pass, passes, seeded}
use Rattle.rules.specs.Backward.{is_followed}
use Rattle.passes.specs.Followed.{down, up}

-- the arc, where the test holds
abbrev pub when : Bool → Arc → List Arc
when b a = cond b (a ∷ []) []

-- backward from version s at time t

-- from version v to its previous, p
unfoldable pub step_back : ℕ → ℕ → List Arc
step_back v p = when (not (eqb p none)) (arc v p)

-- against an edge of row e
unfoldable pub source_back : ℕ → ℕ → EdgeRow → List Arc
source_back s t e = when (is_followed s t e) (arc e.to.0 e.from.0)

unfoldable pub edge_back : (ℕ → VersionRow) → ℕ → ℕ → EdgeRow → List Arc
edge_back W s t e = source_back s t e ++ step_back e.to.0 (W e.to.0).previous.0

-- in the first pass, and in each later one
unfoldable pub first_back : Trail → ℕ → ℕ → List Arc
first_back T s t = down (λ k. edge_back T.version s t (T.edge k)) T.counts.edges ++ down (λ v. step_back v (T.version v).previous.0) T.counts.versions

unfoldable pub later_back : Trail → ℕ → ℕ → List Arc
later_back T s t = down (λ k. source_back s t (T.edge k)) T.counts.edges ++ down (λ v. step_back v (T.version v).previous.0) T.counts.versions

-- marked after the passes from version s
unfoldable pub marked_back : Trail → ℕ → ℕ → List ℕ
marked_back T s t = passes T.counts.versions (later_back T s t) (pass (first_back T s t) (seeded T.counts.versions (s ∷ [])))

-- forward

-- to version v from its previous, p
unfoldable pub step_on : ℕ → ℕ → List Arc
step_on p v = when (not (eqb p none)) (arc p v)

-- along an edge of row e
unfoldable pub target_on : EdgeRow → List Arc
target_on e = arc e.from.0 e.to.0 ∷ []

unfoldable pub edge_on : (ℕ → VersionRow) → EdgeRow → List Arc
edge_on W e = target_on e ++ step_on (W e.to.0).previous.0 e.to.0

unfoldable pub first_on : Trail → List Arc
first_on T = up (λ k. edge_on T.version (T.edge k)) T.counts.edges ++ up (λ v. step_on (T.version v).previous.0 v) T.counts.versions

unfoldable pub later_on : Trail → List Arc
later_on T = up (λ k. target_on (T.edge k)) T.counts.edges ++ up (λ v. step_on (T.version v).previous.0 v) T.counts.versions

-- marked after the passes from the marks m
unfoldable pub marked_on : Trail → List ℕ → List ℕ
marked_on T m = passes T.counts.versions (later_on T) (pass (first_on T) m)
