-- The lemmas of this crate.
pub mod Offsets
pub mod Moments
pub mod Writes
pub mod Counting
