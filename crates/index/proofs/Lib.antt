pub mod Search
pub mod Links
pub mod Filter
pub mod Places
