pub mod Followed
pub mod Loops
pub mod Members
pub mod BackArcs
pub mod OnArcs
