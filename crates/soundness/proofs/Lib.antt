-- Laws of tests, and of the loops that make them
pub mod All
pub mod Tests
pub mod Sorts
pub mod Versions
pub mod Edges
-- Sound tables are those whose rows have the facts
pub mod Facts
pub mod Passes
-- The test of the edges by codes
pub mod Coded
pub mod Ready
-- A record that is taken in, on rows by number
pub mod Put
pub mod Sums
pub mod Hit
pub mod Taken
pub mod Extends
pub mod Declared
pub mod Kept
pub mod Repeated
pub mod Widened
pub mod Renewed
pub mod Signed
pub mod Step
-- The same on lent tables, and a batch
pub mod Written
pub mod TableStep
pub mod Decoded
pub mod BatchStep
-- What a batch leaves as it was lent
pub mod Past
pub mod SignedStay
pub mod RowsStay
pub mod Counted
pub mod FrameStep
pub mod Frame
pub mod Refuted
