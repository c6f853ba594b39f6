-- what lists of calls leave; plain lists whose records are taken in
pub mod Left
pub mod Taken
-- the claims
pub mod Signed
pub mod Demand2
pub mod Demand3
pub mod OneEntity
pub mod RoundTrip
-- wrong answers that the claims rule out
pub mod Refuted
-- events in one tick: their times, document 01 as the special case, wrong answers
pub mod Ticks
-- what the public calls carry of them
pub mod Promises
