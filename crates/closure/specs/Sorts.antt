-- Past the test for 16 traces read no sort: whether an object is signed (document 02, 2.4) changes none.
use Rattle.std.specs.Prelude.{ℕ, ◌≡◌, true, List}
use Rattle.rows.specs.declared.Counts.{Counts}
use Rattle.rules.specs.Trail.{Tables, capacity_of, trail_of}
use Rattle.rules.specs.Sound.{is_sound}
use Rattle.rules.specs.Backward.{backward_of}
use Rattle.rules.specs.Forward.{forward_of}
use Rattle.closure.specs.Same.{SameButSorts}

-- whatever the calls are lent besides, they return and leave the same, in the work buffer too
pub record SameTraces (c : Counts) (t : Tables) (c' : Counts) (t' : Tables) : Type 0 where
  pub backward : (v time : ℕ) (work marks : List ℕ) → backward_of c t v time work marks ≡ backward_of c' t' v time work marks
  pub forward : (us : List ℕ) (time : ℕ) (work marks : List ℕ) → forward_of c t us time work marks ≡ forward_of c' t' us time work marks

-- of sound tables, grown or not; others are refused with 16
abbrev pub NoSortRead : Type 0
NoSortRead = (c c' : Counts) (t t' : Tables) → is_sound (capacity_of t) (trail_of c t) ≡ true → is_sound (capacity_of t') (trail_of c' t') ≡ true
    → SameButSorts (trail_of c t) (trail_of c' t') → SameTraces c t c' t'
