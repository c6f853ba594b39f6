pub mod Stores
pub mod RowLaws
pub mod Capacity
