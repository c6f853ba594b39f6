-- The trail whose rows in use are within its tables.
use Rattle.marks.specs.declared.fitted.Fitted.{Fitted}
use Rattle.rules.specs.Trail.{Trail, lent, trail_of}

abbrev pub trail_in : Fitted → Trail
trail_in t = trail_of t.trail.counts (lent t.trail)
