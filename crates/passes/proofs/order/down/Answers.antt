-- The arcs that are left give from the marks at hand what all give from the marks at the beginning.
use Rattle.std.proofs.Common.{refl, arith}
use Rattle.passes.proofs.Loops.{descends_start, descends_next, descends_end}
use Rattle.passes.proofs.order.down.Goals as goal

pub loop-k-init : goal.loop-k-init
loop-k-init g c = λ A f. search descends_start

pub loop-k-preserved : goal.loop-k-preserved
loop-k-preserved g c = λ A f. descends_next _ _ _ _ _ _ (c.loop-k.invariant A f) (omega (arith, c.loop-k-test.true)) _ _ _ (f _ _ _ _ c.loop-k.auto.work (omega (arith, c.loop-k-test.true, c.loop-k.auto.k)) c.step-changed.ensures) refl

pub returns : goal.returns
returns g c = λ A f. let i = c.loop-k.invariant A f in search descends_end
