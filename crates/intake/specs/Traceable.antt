-- What the checks of a trace of a list of entities give.
use Rattle.std.specs.Prelude.{ℕ, List}
use Rattle.rules.specs.Trail.{Trail}
use Rattle.soundness.specs.Facts.{RowFacts}
use Rattle.closure.specs.Arcs.{AllBelow}

pub record Traceable (T : Trail) (us : List ℕ) : Type 0 where
  pub rows : RowFacts T
  pub declared : AllBelow T.counts.entities us
