-- The lemmas of this crate.
pub mod Gates
pub mod Records
pub mod OneJournal
pub mod OnlyReading
pub mod NextBytes
pub mod NoRecords
pub mod NextRecord
pub mod ReadTo
pub mod Files
pub mod Needed
pub mod Kept
pub mod WholeRuns
