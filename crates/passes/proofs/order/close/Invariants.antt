-- The passes left give from the marks at hand what all passes give from the marks at the beginning.
use Rattle.std.proofs.Common.{List, length, ◌-◌, ◌≡◌}
use Rattle.rules.specs.Marks.{Arc, passes}
use Rattle.passes.specs.Steps.{Follows}
use Rattle.passes.proofs.order.close.Given as goal

abbrev pub invariant-loop : goal.invariant-loop
invariant-loop g l = (arcs : List Arc) → Follows g.F.Fn l.pass (length l.initial.work) arcs → passes (l.n - l.counter) arcs l.work ≡ passes l.n arcs l.initial.work
