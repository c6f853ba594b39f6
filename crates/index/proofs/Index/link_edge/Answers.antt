-- What is linked and noted is one edge more.
use Rattle.index.proofs.Links.{indexed_next}
use Rattle.index.proofs.Filter.{noted_next}
use Rattle.index.proofs.Index.link_edge.Goals as goal

pub returns-clause-indexed : goal.returns-clause-indexed
returns-clause-indexed c = search indexed_next

pub returns-clause-noted : goal.returns-clause-noted
returns-clause-noted c = search noted_next
