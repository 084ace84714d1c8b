-- The lemmas of this crate.
pub mod Ahead
mod Lines
