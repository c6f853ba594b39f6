-- The members passed are marked as seen, and their start versions.
use Rattle.std.specs.Prelude.{length, take}
use Rattle.rules.specs.Trail.{lent, trail_of}
use Rattle.starts.proofs.StartsLoop.{Marks}
use Rattle.starts.proofs.mark_starts.Given as goal

abbrev pub invariant-loop-u : goal.invariant-loop-u
invariant-loop-u l = Marks (trail_of l.t.counts (lent l.t)) l.time (length l.initial.work) (length l.initial.seen) (take l.u-index l.members) l.work l.seen
