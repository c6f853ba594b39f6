-- Document 01, "Traces": marks, 1 or 0, that follow arcs until nothing is added; the buffers and the count.
use Rattle.std.specs.Prelude.{ℕ, zero, suc, ◌+◌, Bool, false, ◌&&◌, ◌||◌, cond, List, [], ◌∷◌, ◌++◌, length, get_or, set, drop, replicate, eqb}
use Rattle.rows.specs.declared.VersionRow.{VersionRow}

-- from a marked version to one that is then marked
pub record Arc : Type 0 where
  pub from : ℕ
  pub to : ℕ

abbrev pub arc : ℕ → ℕ → Arc
arc a b = record { from = a; to = b }

unfoldable pub follow : Arc → List ℕ → List ℕ
follow a m = cond (eqb (get_or m a.from 0) 1) (set m a.to 1) m

unfoldable pub pass : List Arc → List ℕ → List ℕ
pass [] m = m
pass (a ∷ as') m = pass as' (follow a m)

unfoldable pub passes : ℕ → List Arc → List ℕ → List ℕ
passes zero arcs m = m
passes (suc n) arcs m = passes n arcs (pass arcs m)

-- n places, with those of the list marked
unfoldable pub seeded : ℕ → List ℕ → List ℕ
seeded n [] = replicate n 0
seeded n (s ∷ ss) = set (seeded n ss) s 1

-- of n places, those reached from the ones of the list: a pass that adds none changes nothing, so n passes are enough
unfoldable pub closed : ℕ → List Arc → List ℕ → List ℕ
closed n arcs ss = passes n arcs (seeded n ss)

-- "1 for each entity with a marked version, else 0": entity x, by the first n versions
unfoldable pub has_marked : (ℕ → VersionRow) → List ℕ → ℕ → ℕ → Bool
has_marked W work x zero = false
has_marked W work x (suc k) = (eqb (W k).entity.0 x && eqb (get_or work k 0) 1) || has_marked W work x k

unfoldable pub marks_below : (ℕ → VersionRow) → List ℕ → ℕ → ℕ → List ℕ
marks_below W work n zero = []
marks_below W work n (suc x) = marks_below W work n x ++ (cond (has_marked W work x n) 1 0 ∷ [])

-- "the count is the number of ones in the mark buffer"
unfoldable pub ones : List ℕ → ℕ
ones [] = 0
ones (b ∷ bs) = cond (eqb b 1) 1 0 + ones bs

-- "Bytes past the counts are untouched."
abbrev pub overlaid : List ℕ → List ℕ → List ℕ
overlaid bytes buffer = bytes ++ drop (length bytes) buffer
