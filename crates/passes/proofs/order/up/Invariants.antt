-- The arcs of the numbers passed give the marks at hand.
use Rattle.std.proofs.Common.{ℕ, List, length}
use Rattle.rules.specs.Marks.{Arc}
use Rattle.passes.specs.Followed.{Followed, up}
use Rattle.passes.specs.Steps.{FollowsBelow}
use Rattle.passes.proofs.order.up.Given as goal

abbrev pub invariant-loop-k : goal.invariant-loop-k
invariant-loop-k g l = (A : ℕ → List Arc) → FollowsBelow g.F.Fn l.step l.n (length l.initial.work) A → Followed (up A l.k) l.initial.work l.changed l.work
