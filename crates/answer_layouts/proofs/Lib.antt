-- The lemmas of this crate.
pub mod Types
pub mod Steps
pub mod KeptParts
pub mod ReadGroups
pub mod KeptCells
pub mod ReadLayouts
pub mod Judging
