pub mod EntityList
