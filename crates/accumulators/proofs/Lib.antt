-- The lemmas of this crate.
pub mod AtGroups
pub mod GroupLoops
pub mod CellStates
