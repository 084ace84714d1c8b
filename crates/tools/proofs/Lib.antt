-- The lemmas of this crate.
pub mod Layers
pub mod PlainLines
pub mod Taken
