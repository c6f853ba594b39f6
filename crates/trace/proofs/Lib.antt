-- the marks of the versions, as in document 01
pub mod BackMarks
pub mod OnMarks
-- the buffers and the answers
pub mod Buffers
pub mod BackAnswer
pub mod OnAnswer
