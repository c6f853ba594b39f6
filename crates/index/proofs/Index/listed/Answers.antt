-- The search stands at a link whose edge leaves the version, and its answer is that for the edges below; links fall.
use Rattle.index.proofs.Links.{walk_start, walk_next}
use Rattle.index.proofs.Index.listed.Goals as goal

pub loop-link-init : goal.loop-link-init
loop-link-init c = search walk_start

pub loop-link-preserved : goal.loop-link-preserved
loop-link-preserved c =
    let l = c.loop-link in
    walk_next _ _ _ _ _ _ l.invariant c.loop-link-test.true _ _ c.requires.indexed _ c.at-link-in-loop-link.ensures _ c.of.ensures c.if-eq.ensures
