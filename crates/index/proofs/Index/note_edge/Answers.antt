-- The hint that is written is that of one edge more.
use Rattle.index.proofs.Links.{within_most}
use Rattle.index.proofs.Places.{hinted_next}
use Rattle.index.proofs.Index.note_edge.Goals as goal

pub returns-clause-arrays : goal.returns-clause-arrays
returns-clause-arrays c =
    let p = c.requires in
    let q = c.link_edge-way.ensures in
    record {
      index = q.indexed;
      noted = q.noted;
      hinted = hinted_next _ _ _ (within_most _ _ p.k_bound.0) _ p.arrays.hinted _ q.way _ (rw q.hints at c.put_hint.ensures);
    }
