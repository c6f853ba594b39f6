-- A pass over arcs as code makes it: the marks after it, and whether it added one.
use Rattle.std.specs.Prelude.{ℕ, zero, suc, ◌≡◌, Bool, false, ◌&&◌, ◌||◌, not, List, [], ◌∷◌, ◌++◌, get_or, eqb}
use Rattle.rules.specs.Marks.{Arc, follow, pass}

-- the arc adds a mark
unfoldable pub fires : Arc → List ℕ → Bool
fires a m = eqb (get_or m a.from 0) 1 && not (eqb (get_or m a.to 0) 1)

-- one of the arcs, followed in turn, does
unfoldable pub changes : List Arc → List ℕ → Bool
changes [] m = false
changes (a ∷ as') m = fires a m || changes as' (follow a m)

-- from the marks m a pass over the arcs makes m', and c says whether it added a mark
pub record Followed (arcs : List Arc) (m : List ℕ) (c : Bool) (m' : List ℕ) : Type 0 where
  pub changed : c ≡ changes arcs m
  pub marks : m' ≡ pass arcs m

-- the arcs of the first n numbers, the highest number first, and the lowest first
unfoldable pub down : (ℕ → List Arc) → ℕ → List Arc
down A zero = []
down A (suc k) = A k ++ down A k

unfoldable pub up : (ℕ → List Arc) → ℕ → List Arc
up A zero = []
up A (suc k) = up A k ++ A k
