use Rattle.soundness.proofs.Ready.{versions_ready, codes_in, edges_in, coded_sound}
use Rattle.soundness.proofs.rows_ok.Goals as goal

pub versions_ok-requires : goal.versions_ok-requires
versions_ok-requires c = search versions_ready

pub edges_ok-requires : goal.edges_ok-requires
edges_ok-requires c = (search codes_in, search edges_in)

pub returns-then-versions_ok : goal.returns-then-versions_ok
returns-then-versions_ok c = search coded_sound
