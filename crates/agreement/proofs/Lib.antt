-- One record over trails with the same rows in use
pub mod Judged
pub mod Changed
-- Document 01's rule as a working of the trace theorem
pub mod Growing
pub mod Plain
-- The list of calls, and demand 3
pub mod Matching
pub mod Held
pub mod Left
pub mod TraceAnswers
pub mod Demand3
pub mod OneEntity
-- What the edges stand for, the signatures, and demand 2
pub mod KeptOnly
pub mod Counted
pub mod SignedStep
pub mod Signed
pub mod Untouched
pub mod Passing
pub mod Unsigned
pub mod Demand2
pub mod TracesUntouched
-- The kept log taken in again
pub mod Recent
pub mod Decided
pub mod Relogged
pub mod Before
pub mod Again
pub mod SignedAgain
pub mod TracesAgain
pub mod SameCalls
pub mod TakenAll
pub mod Log
pub mod RoundTrip
-- Wrong answers contradict the claims
pub mod Determined
pub mod WorkedEvents
pub mod WorkedAnswers
pub mod SignedAnswers
pub mod NoEdge
pub mod LongerPaths
pub mod OwnIntakes
pub mod Ticks
pub mod GainDropped
pub mod Refuted
-- What the public calls carry
pub mod Promises
