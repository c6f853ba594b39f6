-- The intake of a version, and the earliest one of the marked versions: each edge from the newest on is looked at once for all of them.
use Rattle.std.specs.Prelude.{ℕ, zero, suc, min, ◌≤◌, ◌≡◌, ◌⊎◌, Bool, ◌&&◌, cond, List, get_or, set, eqb, leb}
use Rattle.rows.specs.declared.VersionRow.{VersionRow}
use Rattle.rows.specs.declared.EdgeRow.{EdgeRow}
use Rattle.closure.specs.Arcs.{Marked}

-- an edge of row e enters version s with time ≤ t
unfoldable pub enters_by : ℕ → ℕ → EdgeRow → Bool
enters_by s t e = eqb e.to.0 s && leb e.time t

-- the intake of version s by the first n edges: edge times do not fall, so it is the time of the last edge that does, else the version's start
unfoldable pub last_intake : (ℕ → VersionRow) → (ℕ → EdgeRow) → ℕ → ℕ → ℕ → ℕ
last_intake W E s t zero = (W s).start
last_intake W E s t (suc k) = cond (enters_by s t (E k)) (E k).time (last_intake W E s t k)

-- an edge of row e enters a version that is marked, with time ≤ t
unfoldable pub enters_marked : List ℕ → ℕ → EdgeRow → Bool
enters_marked m t e = eqb (get_or m e.to.0 0) 1 && leb e.time t

-- how many edges there are up to the last of the first n that does, 0 if none does
unfoldable pub up_to_entering : (ℕ → EdgeRow) → List ℕ → ℕ → ℕ → ℕ
up_to_entering E m t zero = 0
up_to_entering E m t (suc k) = cond (enters_marked m t (E k)) (suc k) (up_to_entering E m t k)

-- the version that the edge enters is no longer marked, and its time counts
pub record Taken (e : EdgeRow) (m : List ℕ) (b : ℕ) (m' : List ℕ) (r : ℕ) : Type 0 where
  pub marks : m' ≡ set m e.to.0 0
  pub earlier : r ≡ min b e.time

-- r is the least of b and of what f gives for the numbers of P
pub record Least (P : ℕ → Type 0) (f : ℕ → ℕ) (b r : ℕ) : Type 0 where
  pub below : r ≤ b
  pub least : (v : ℕ) → P v → r ≤ f v
  pub is_one : (r ≡ b) ⊎ ((v : ℕ) × P v × (r ≡ f v))

-- of b and the starts of the marked versions; of b and their intakes by the first n edges
abbrev pub LeastStart : (ℕ → VersionRow) → List ℕ → ℕ → ℕ → Type 0
LeastStart W m = Least (Marked m) (λ v. (W v).start)

abbrev pub LeastIntake : (ℕ → VersionRow) → (ℕ → EdgeRow) → ℕ → ℕ → List ℕ → ℕ → ℕ → Type 0
LeastIntake W E t n m = Least (Marked m) (λ v. last_intake W E v t n)
