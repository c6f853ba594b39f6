-- The search stands at a link whose edge leaves the version, and its answer is that for the edges below; links fall.
use Rattle.rows.specs.Rows.{version_at, edge_at}
use Rattle.index.proofs.Links.{Walk}
use Rattle.index.proofs.Index.listed.Given as goal

abbrev pub invariant-loop-link : goal.invariant-loop-link
invariant-loop-link l = Walk (edge_at l.t.edges.now) (version_at l.t.versions.now) l.way.from.0 l.way.to.0 l.t.counts.edges l.link

abbrev pub decreases-loop-link : goal.decreases-loop-link
decreases-loop-link l = l.link
