-- What sound tables and records that are taken in give
pub mod Facts
pub mod Taken
-- What single functions compute
pub mod Parts
-- What a batch leaves as it was lent
pub mod Frame
pub mod Refuted
