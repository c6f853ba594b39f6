-- Counts and tables that a list of calls leaves (document 01, "Traces"): what the claims about lists of calls speak of.
use Rattle.std.specs.Prelude.{ℕ, ◌≡◌, List, [], ◌∷◌}
use Rattle.rows.specs.declared.Counts.{Counts}
use Rattle.rules.specs.Trail.{Tables, fresh_counts}
use Rattle.rules.specs.Calls.{Call, backward, forward, held, held_after, Lent, AllLent}

-- c are the counts that the calls cs leave, each lent what the one before left, and t holds the rows in use that they leave
pub record LeftBy (cs : List Call) (c : Counts) (t : Tables) : Type 0 where
  pub lent : AllLent cs
  pub counts : c ≡ (held_after cs).counts
  pub rows : Lent (held_after cs) t

-- For what grows from a fresh trail there are such calls: the empty list leaves the fresh trail, a trace goes on from what it was lent,
-- and a batch by its promise (`goes_on`)
pub record Leaving : Type 0 where
  -- "All five zero is a fresh trail, whatever the tables hold."
  pub fresh : (t : Tables) → LeftBy [] fresh_counts t
  -- a trace leaves what it was lent
  pub backward : (cs : List Call) (c : Counts) (t : Tables) → LeftBy cs c t → (v time : ℕ) (work marks : List ℕ)
      → LeftBy (backward t v time work marks ∷ cs) c t
  pub forward : (cs : List Call) (c : Counts) (t : Tables) → LeftBy cs c t → (us : List ℕ) (time : ℕ) (work marks : List ℕ)
      → LeftBy (forward t us time work marks ∷ cs) c t
  -- the rows in use may be moved to other tables
  pub moved : (cs : List Call) (c : Counts) (t : Tables) → LeftBy cs c t → (other : Tables) → Lent (held c t) other → LeftBy cs c other
