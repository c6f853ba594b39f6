pub mod Working
pub mod Times
pub mod Statements
