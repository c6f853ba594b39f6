-- Of sound tables the least with the last time is the earliest of the members' intakes.
use Rattle.intake.proofs.Found.{one_found, several_found}
use Rattle.intake.proofs.intake.Goals as goal

pub returns-in-len1 : goal.returns-in-len1
returns-in-len1 c = search one_found

pub returns-in_default : goal.returns-in_default
returns-in_default c = search several_found
