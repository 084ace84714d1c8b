-- The lemmas of this crate.
pub mod Again
pub mod PackedBytes
