pub mod Followed
pub mod TraceArcs
pub mod Steps
