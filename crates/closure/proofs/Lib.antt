-- marks closed over any list of arcs
pub mod Marks
pub mod Passes
pub mod Steady
pub mod Closed
-- the start version and the intake
pub mod Start
pub mod StartVersion
pub mod Collected
pub mod Intake
-- the traces
pub mod TraceArcs
pub mod Backward
pub mod Forward
pub mod Entities
pub mod Ones
pub mod Traces
pub mod FromStart
-- the calls
pub mod Checked
pub mod Descending
pub mod Buffers
pub mod Marking
pub mod TraceCalls
pub mod Traced
pub mod Determined
pub mod ByRelations
-- lists of entities
pub mod Union
pub mod Members
-- trails with the same rows in use, and with other sorts
pub mod SameFacts
pub mod Below
pub mod Sorts
