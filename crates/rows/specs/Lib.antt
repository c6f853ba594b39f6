pub mod Rows
pub mod Capacity
