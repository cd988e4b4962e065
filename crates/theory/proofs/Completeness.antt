-- Satisfiable is right (000, Lemmas 1 to 5, Theorem 3).
pub mod Saturated
pub mod Saturation
pub mod Completed
pub mod Found
pub mod KnownLinks
pub mod NewLink
pub mod Completion
pub mod Byte
pub mod Placed
pub mod Renamed
pub mod NoClash
pub mod ReportBytes
pub mod ReportHeap
pub mod ShownNodes
pub mod ShownHeap
