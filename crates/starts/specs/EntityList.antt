-- What a list of entities is refused for, and a member's start version (document 02, 2.2), as code finds them.
use Rattle.std.specs.Prelude.{ℕ, ◌≡◌, Bool, cond, List, get_or, set, eqb, leb}
use Rattle.std.specs.List.{list_any}
use Rattle.rules.specs.Trail.{Trail}
use Rattle.rules.specs.Start.{start_of}

-- one of them is none of the first e entities
abbrev pub any_undeclared : ℕ → List ℕ → Bool
any_undeclared e us = list_any (leb e) us

-- member u is marked as seen, and its start version, where u was not seen before
pub record StartMarked (T : Trail) (t u : ℕ) (work seen work' seen' : List ℕ) : Type 0 where
  pub member : seen' ≡ set seen u 1
  pub start : work' ≡ cond (eqb (get_or seen u 0) 1) work (set work (start_of T u t) 1)
