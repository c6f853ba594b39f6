-- The arcs that are left give from the marks at hand what all give from the marks at the beginning.
use Rattle.std.proofs.Common.{ℕ, List, length}
use Rattle.rules.specs.Marks.{Arc}
use Rattle.passes.specs.Steps.{FollowsBelow}
use Rattle.passes.proofs.Loops.{Descends}
use Rattle.passes.proofs.order.down.Given as goal

abbrev pub invariant-loop-k : goal.invariant-loop-k
invariant-loop-k g l = (A : ℕ → List Arc) → FollowsBelow g.F.Fn l.step l.n (length l.initial.work) A → Descends A l.n l.initial.work l.k l.changed l.work
