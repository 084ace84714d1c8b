-- The lemmas of this crate.
pub mod Sizes
pub mod Advancing
pub mod Masks
pub mod Rows
pub mod Selected
pub mod Filling
pub mod Groups
pub mod Narrowing
pub mod LawProofs
pub mod MarkedBlocks
pub mod TypedBatches
