-- The room that is left, counted: one more than the room, 0 where the bytes do not fit.
use Rattle.std.specs.Prelude.{ℕ, ◌-◌, ◌≡◌, List, length}
use Rattle.words.specs.declared.count.Room.{Room}

-- bytes are counted whether they fit or not
abbrev pub IsCounted : Room → List ℕ → Type 0
IsCounted r p = Unit {0}

abbrev pub Lessened : Room → List ℕ → Room → Type 0
Lessened r p r' = r'.left ≡ r.left - length p
