-- One mark, made where a test holds.
use Rattle.std.specs.Prelude.{ℕ, ◌≡◌, Bool, ◌&&◌, not, cond, List, get_or, set, eqb}

-- from m, place i is marked where b holds, which makes m', and c says whether that is a new mark
pub record MarkedIf (b : Bool) (i : ℕ) (m : List ℕ) (c : Bool) (m' : List ℕ) : Type 0 where
  pub changed : c ≡ b && not (eqb (get_or m i 0) 1)
  pub marks : m' ≡ cond b (set m i 1) m
