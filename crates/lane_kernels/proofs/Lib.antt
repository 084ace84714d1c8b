-- The lemmas of this crate.
pub mod Chosen
pub mod Gathered
pub mod Placed
pub mod Stored
pub mod Summed
pub mod Tested
pub mod Wrapped
pub mod Zipped
