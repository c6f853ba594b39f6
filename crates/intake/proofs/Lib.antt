-- one version
pub mod IntakeLoop
-- the marked ones
pub mod Least
pub mod Pending
pub mod EnteringLoop
pub mod Entering
pub mod EarliestStart
pub mod EarliestIntake
-- the same as in documents 01 and 02
pub mod IntakeIs
pub mod Found
