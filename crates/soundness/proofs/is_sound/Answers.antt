use native.Mathlib.Omega.{arith}
use Rattle.rules.specs.Trail.{lent}
use Rattle.soundness.proofs.Ready.{room_most}
use Rattle.soundness.proofs.is_sound.Goals as goal

pub rows_ok-requires-2 : goal.rows_ok-requires-2
rows_ok-requires-2 c = record { counts = cc; entities = cc; room = omega (arith, room_most c.args.t.now.counts (lent c.args.t.now) cc) }
