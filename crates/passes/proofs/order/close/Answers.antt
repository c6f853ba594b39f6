-- The passes left give from the marks at hand what all passes give from the marks at the beginning.
use Rattle.passes.proofs.Loops.{passes_next, passes_stop, passes_end}
use Rattle.passes.proofs.order.close.Goals as goal

pub loop-preserved : goal.loop-preserved
loop-preserved g c = λ arcs f. passes_next arcs _ _ _ _ (c.loop.invariant arcs f) _ _ (f _ _ _ c.loop.auto.work c.pass.ensures) c.loop-test.true

pub returns-then-not-pass : goal.returns-then-not-pass
returns-then-not-pass g c = λ arcs f. passes_stop arcs _ _ _ _ (c.loop.invariant arcs f) _ _ (f _ _ _ c.loop.auto.work c.pass.ensures) c.if-not-pass.true

pub returns : goal.returns
returns g c = λ arcs f. passes_end arcs _ _ _ _ (c.loop.invariant arcs f) c.loop-test.false
