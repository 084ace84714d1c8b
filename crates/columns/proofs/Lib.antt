-- The lemmas of this crate.
pub mod CellLaws
pub mod Joined
