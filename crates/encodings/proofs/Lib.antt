-- The lemmas of this crate.
pub mod ChosenKinds
pub mod ChosenRows
pub mod EncodedBlocks
pub mod EncodedBodies
pub mod EncodedDictionaries
pub mod EncodedForms
pub mod EncodedFrames
pub mod EncodedRuns
pub mod Marks
pub mod NumberEntries
pub mod RowCodes
pub mod RowNumbers
pub mod RunSizes
pub mod Worked
