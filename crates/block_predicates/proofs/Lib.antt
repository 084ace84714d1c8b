-- The lemmas of this crate.
pub mod EntryKinds
pub mod LaneLists
pub mod MarkedPositions
pub mod OneColumn
pub mod RowMarks
pub mod RunMarks
pub mod TypedEntries
