use Rattle.soundness.proofs.All.{all_none}
use Rattle.soundness.proofs.Versions.{owner_low, versions_stop, versions_next, owners_next}
use native.Mathlib.Omega.{arith}
use Rattle.soundness.proofs.versions_ok.Goals as goal

pub loop-k-init : goal.loop-k-init
loop-k-init c = record { passed = all_none _; owners = λ j l. absurd (omega arith) }

pub code-requires : goal.code-requires
code-requires c = search owner_low

pub loop-k-preserved : goal.loop-k-preserved
loop-k-preserved c = record { passed = search versions_next; owners = search owners_next }

pub returns-then-not-version_ok-clause-value : goal.returns-then-not-version_ok-clause-value
returns-then-not-version_ok-clause-value c = search versions_stop
