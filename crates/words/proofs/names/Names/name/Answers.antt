use Rattle.words.proofs.LineStarts.{part_some, part_start, part_end, part_is}
use Rattle.words.proofs.names.Names.name.Goals as goal

pub overflow_sub-result : goal.overflow_sub-result
overflow_sub-result c = search part_some

pub slice_bounds-result-count : goal.slice_bounds-result-count
slice_bounds-result-count c = search part_start

pub slice_bounds-result-start : goal.slice_bounds-result-start
slice_bounds-result-start c = search part_start

pub slice_bounds-result-end : goal.slice_bounds-result-end
slice_bounds-result-end c = search part_end

pub returns : goal.returns
returns c = search part_is
