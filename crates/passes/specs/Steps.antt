-- What a step of a pass is asked, and what it does: it follows the arcs of its number, in marks for l places.
use Rattle.std.specs.Prelude.{ℕ, ◌<◌, ◌≡◌, Bool, List, length}
use Rattle.std.specs.Fn.{Shared}
use denote.Ref.{MutBor}
use Rattle.rules.specs.Marks.{Arc}
use Rattle.passes.specs.Followed.{Followed}

module _ {F : Type 0} (g : Shared F (MutBor (List ℕ) × (ℕ × Unit {0})) (Bool × (MutBor (List ℕ) × Unit {0}))) (step : F) (n l : ℕ) where
  -- the step may be called at each number below n
  abbrev pub StepsBelow : Type 0
  StepsBelow = (m : MutBor (List ℕ)) (k : ℕ) → length m.now ≡ l → k < n → g.pre step (m, (k, tt))

  -- and follows the arcs of it
  abbrev pub FollowsBelow : (ℕ → List Arc) → Type 0
  FollowsBelow A = (m m' : MutBor (List ℕ)) (k : ℕ) (c : Bool) → length m.now ≡ l → k < n → g.post step (m, (k, tt)) (c, (m', tt)) → Followed (A k) m.now c m'.now

module _ {F : Type 0} (g : Shared F (MutBor (List ℕ) × Unit {0}) (Bool × (MutBor (List ℕ) × Unit {0}))) (pass : F) (l : ℕ) where
  -- the pass may be made
  abbrev pub Passes : Type 0
  Passes = (m : MutBor (List ℕ)) → length m.now ≡ l → g.pre pass (m, tt)

  -- and follows the arcs
  abbrev pub Follows : List Arc → Type 0
  Follows arcs = (m m' : MutBor (List ℕ)) (c : Bool) → length m.now ≡ l → g.post pass (m, tt) (c, (m', tt)) → Followed arcs m.now c m'.now
