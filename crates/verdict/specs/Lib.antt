pub mod Ready
pub mod Judge
