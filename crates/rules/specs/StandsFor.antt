-- Document 02, 2.1: the accepted events that an edge stands for, the last accepted first. They come from the plain list alone.
use Rattle.std.specs.Prelude.{ℕ, cond, List, [], ◌∷◌, eqb}
use Rattle.record.specs.declared.Event.{Event}
use Rattle.record.specs.declared.Record.{Record}
use Rattle.record.specs.declared.Record.TheVariants as records
use Rattle.rules.specs.declared.Decision.{Decision}
use Rattle.rules.specs.declared.Decision.TheVariants.{Repeat, Widen, Renew}
use Rattle.rules.specs.Trail.{Trail}
use Rattle.rules.specs.Decide.{decision_of}
use Rattle.rules.specs.PlainList.{worked}

-- the number of the edge that stands for an event: the newest that makes it a repeat, or the one that is kept for it, "from 0 as kept"
abbrev pub edge_for : Trail → Decision → ℕ
edge_for T (Repeat k) = k.0
edge_for T Widen = T.counts.edges
edge_for T Renew = T.counts.edges

-- of the events accepted in the plain list, those that edge k stands for: the one that was kept as edge k, and its repeats
unfoldable pub stands_for : List Record → ℕ → List Event
stands_for [] k = []
stands_for (records.Declaration d ∷ rs) k = stands_for rs k
stands_for (records.Event e ∷ rs) k = cond (eqb (edge_for (worked rs) (decision_of (worked rs) e)) k) (e ∷ stands_for rs k) (stands_for rs k)
stands_for (records.Signature s ∷ rs) k = stands_for rs k

-- the time of the last accepted of these, 0 if there is none
abbrev pub last_time : List Event → ℕ
last_time [] = 0
last_time (e ∷ es) = e.time
