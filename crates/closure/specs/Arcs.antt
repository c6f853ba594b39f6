-- What a list of arcs reaches from some places, and lists of marks, 1 or 0 for each place.
use Rattle.std.specs.Prelude.{ℕ, ◌+◌, ◌<◌, ◌≡◌, ◌⊎◌, cond, get_or, eqb}
use mathlib.Core.List.{List, [], ◌∷◌, Memᴰ}
use Rattle.rules.specs.Marks.{Arc}

-- the least set that has the seeds and, with the beginning of an arc, its end
pub data ReachedBy (arcs : List Arc) (seeds : List ℕ) : ℕ → Type 0 where
  seed : {b : ℕ} → Memᴰ b seeds → ReachedBy arcs seeds b
  along : {a b : ℕ} (x : Arc) → ReachedBy arcs seeds a → Memᴰ x arcs → x.from ≡ a → x.to ≡ b → ReachedBy arcs seeds b

-- place b is marked
abbrev pub Marked : List ℕ → ℕ → Type 0
Marked m b = get_or m b 0 ≡ 1

-- each mark is 0 or 1
abbrev pub Bits : List ℕ → Type 0
Bits m = (b : ℕ) → (get_or m b 0 ≡ 0) ⊎ Marked m b

-- every arc ends below n
abbrev pub EndBelow : ℕ → List Arc → Type 0
EndBelow n arcs = (x : Arc) → Memᴰ x arcs → x.to < n

abbrev pub AllBelow : ℕ → List ℕ → Type 0
AllBelow n seeds = (s : ℕ) → Memᴰ s seeds → s < n

-- no arc leads from a marked place to one that is not marked
abbrev pub ClosedUnder : List Arc → List ℕ → Type 0
ClosedUnder arcs m = (x : Arc) → Memᴰ x arcs → Marked m x.from → Marked m x.to

-- how many places are not marked
unfoldable pub unmarked : List ℕ → ℕ
unmarked [] = 0
unmarked (b ∷ m) = cond (eqb b 1) 0 1 + unmarked m
