-- The lemmas of this crate.
pub mod Ascending
pub mod Blocks
pub mod Ends
pub mod FrameNulls
pub mod Frames
pub mod MaskWords
pub mod NullRuns
pub mod Nulls
pub mod PassedRuns
pub mod ReadBodies
pub mod ReadLists
pub mod ReadParts
pub mod ReadVectors
pub mod RowCells
pub mod TextCuts
pub mod UnpackNumbers
pub mod Worked
