-- The edge that was found is the newest of its way.
use mathlib.Core.Path.{sym, ◌∙◌}
use Rattle.index.proofs.Links.{within_most}
use Rattle.index.proofs.Places.{found_below}
use Rattle.index.proofs.Index.newest_edge.Goals as goal

pub put_hint-requires : goal.put_hint-requires
put_hint-requires c =
    let p = c.requires in
    (found_below _ _ _ _ (within_most _ _ p.edges_bound) _ _ _ (sym c.listed.ensures ∙ c.in_ok-found.was), p.arrays.hinted.room)
