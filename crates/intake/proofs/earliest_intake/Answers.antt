-- The least with the intakes of those still marked, by the edges left, is the least of all.
use Rattle.std.proofs.Common.{arith}
use Rattle.intake.proofs.EarliestIntake.{seeks_start, seeks_in, seeks_low, seeks_next, seeks_end, seeks_done}
use Rattle.intake.proofs.earliest_intake.Goals as goal

pub loop-init : goal.loop-init
loop-init c = record { in_range = omega arith; seeks = search seeks_start }

pub returns-in_default : goal.returns-in_default
returns-in_default c = search (seeks_end, c.in_default.ensures)

pub take_intake-r-requires : goal.take_intake-r-requires
take_intake-r-requires c = search (seeks_in, c.in-Some.ensures)

pub loop-preserved : goal.loop-preserved
loop-preserved c = record { in_range = search (seeks_low, c.in-Some.ensures); seeks = search (seeks_next, c.in-Some.ensures) }

pub returns : goal.returns
returns c = search seeks_done
