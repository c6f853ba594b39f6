pub mod Index
pub mod Way
pub mod Ways
pub mod Hints
pub mod Arrays
