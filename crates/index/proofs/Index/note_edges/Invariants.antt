-- The loop keeps the index and the ways of the first k edges.
use mathlib.Core.Path.{◌≡◌}
use Rattle.rows.specs.Rows.{version_at, edge_at}
use Rattle.index.specs.Index.{Indexed}
use Rattle.index.specs.Ways.{Noted}
use Rattle.index.specs.Arrays.{SameArrays, SameLengths}
use Rattle.index.proofs.Index.note_edges.Given as goal

abbrev pub invariant-loop-k : goal.invariant-loop-k
invariant-loop-k l = record {
  indexed : Indexed (edge_at l.t.edges.now) l.k l.self.head.now l.self.next.now;
  noted : Noted (edge_at l.t.edges.now) (version_at l.t.versions.now) l.k l.self.ways.now;
  hints : l.self.hints.now ≡ l.initial.self.hints.now;
  lengths : SameLengths l.initial.self l.self;
  same_arrays : SameArrays l.initial.self l.self;
}
