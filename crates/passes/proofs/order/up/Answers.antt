-- The arcs of the numbers passed give the marks at hand.
use Rattle.std.proofs.Common.{refl}
use Rattle.passes.proofs.Loops.{ascends_start, ascends_next, ascends_end}
use Rattle.passes.proofs.order.up.Goals as goal

pub loop-k-init : goal.loop-k-init
loop-k-init g c = λ A f. search ascends_start

pub loop-k-preserved : goal.loop-k-preserved
loop-k-preserved g c = λ A f. ascends_next _ _ _ _ _ (c.loop-k.invariant A f) _ _ _ (f _ _ _ _ c.loop-k.auto.work c.loop-k-test.true c.step-changed.ensures) refl

pub returns : goal.returns
returns g c = λ A f. let i = c.loop-k.invariant A f in search ascends_end
