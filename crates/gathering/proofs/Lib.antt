-- The lemmas of this crate.
pub mod Fitting
pub mod Faults
pub mod Held
pub mod ListedFragments
pub mod Joined
pub mod StateFiles
pub mod Merging
pub mod InBatches
pub mod ShapedGroups
pub mod Deltas
pub mod LiveTotals
