-- Where the version entered is not marked, one mark stands for both arcs.
use Rattle.passes.proofs.OnArcs.{edge_on_lem}
use Rattle.passes.proofs.on.edge_on.Goals as goal

pub returns : goal.returns
returns c = search edge_on_lem
