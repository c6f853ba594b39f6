pub mod Arcs
pub mod ByRelations
pub mod Members
pub mod Collected
pub mod Same
pub mod Sorts
