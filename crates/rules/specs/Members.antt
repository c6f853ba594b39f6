-- Document 02, 2.2: what is said of the members of a list of entities.
use Rattle.std.specs.Prelude.{ℕ, min, ◌≤◌, ◌≡◌}
use mathlib.Core.List.{List, [], ◌∷◌, Memᴰ}

-- x is one of those that R gives for one of the members alone
abbrev pub OfAny : List ℕ → (ℕ → ℕ → Type 0) → ℕ → Type 0
OfAny us R x = (u : ℕ) × Memᴰ u us × R u x

-- "the earliest of the members', 0 for an empty list", where I gives the time of each
pub data IsEarliest (us : List ℕ) (I : ℕ → ℕ → Type 0) (i : ℕ) : Type 0 where
  least : OfAny us I i → ((j : ℕ) → OfAny us I j → i ≤ j) → IsEarliest us I i
  empty : us ≡ [] → i ≡ 0 → IsEarliest us I i

-- the same, computed: the earliest of a list of times
abbrev pub earliest : List ℕ → ℕ
earliest [] = 0
earliest (i ∷ []) = i
earliest (i ∷ (j ∷ js)) = min i (earliest (j ∷ js))
