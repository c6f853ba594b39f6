pub mod Traceable
pub mod Intake
