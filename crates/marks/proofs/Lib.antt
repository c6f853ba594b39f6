pub mod Bytes
pub mod EntityMarks
