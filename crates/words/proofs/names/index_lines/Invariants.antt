-- The invariant: it is known where the lines before `found` begin.
use Rattle.words.proofs.LineStarts.{Indexing}
use Rattle.words.proofs.names.index_lines.Given as goal

abbrev pub invariant-loop-found : goal.invariant-loop-found
invariant-loop-found l = Indexing l.text l.found l.at l.starts
