pub mod Fitted
pub mod MarkedIf
pub mod Owners
