-- Document 01 in its own order, with document 02's requests where they change it.
-- "Tables"
pub mod Trail
pub mod Sound
-- "One record"
pub mod Decide
pub mod Record
pub mod Batch
-- Document 02, 2.3: the search for a repeat
pub mod Search
-- "Traces": what is claimed of the full list, and the list of calls
pub mod Paths
pub mod History
pub mod PlainList
pub mod Calls
-- Document 02, 2.1: what an edge stands for
pub mod StandsFor
-- "Traces": the traces, as relations and as computed; the kept log
pub mod Start
pub mod Marks
pub mod Members
pub mod Backward
pub mod Forward
pub mod KeptLog
-- "A worked trail"
pub mod Listing
pub mod Worked
-- "Refused because ..": their order
pub mod Order
-- Cases at the boundaries
pub mod SoundCases
pub mod FileCases
pub mod RefusalCases
pub mod CapacityCases
pub mod RecordCases
pub mod TriedCases
pub mod TraceCases
pub mod MemberCases
pub mod LogCases
pub mod SignatureCases
pub mod SignedCases
pub mod SignedLogCases
pub mod SignedListCases
pub mod ListingCases
pub mod CallCases
pub mod TickCases
pub mod PathCases
