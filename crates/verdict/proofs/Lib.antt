pub mod Judging
pub mod Tried
