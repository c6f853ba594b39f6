-- The invariant: it is known where the lines before `found` begin.
use Rattle.std.proofs.Common.{◌≡◌, sym, ◌∙◌, arith}
use Rattle.words.proofs.LineStarts.{indexing_begins, indexing_next, indexed_short, indexed_all}
use Rattle.words.proofs.names.index_lines.Goals as goal

pub loop-found-init : goal.loop-found-init
loop-found-init c = indexing_begins c.args.text.now c.args.starts.now

pub loop-found-preserved : goal.loop-found-preserved
loop-found-preserved c =
    indexing_next _ _ c.args.n _ _ c.loop-found.invariant (omega arith) (omega arith) (omega arith) _ (sym c.in-Some.is ∙ c.first_end.ensures)

pub returns-in_default : goal.returns-in_default
returns-in_default c =
    indexed_short _ _ _ _ _ c.loop-found.invariant (omega arith) (omega arith) (omega arith) (sym c.in_default.is ∙ c.first_end.ensures)

pub returns : goal.returns
returns c =
    let e : c.loop-found.found ≡ c.args.n = omega arith in
    indexed_all _ _ _ _ _ (rw e at c.loop-found.invariant) (omega arith) (omega arith) (omega arith)
