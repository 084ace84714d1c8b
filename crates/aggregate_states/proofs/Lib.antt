-- The lemmas of this crate.
pub mod Selected
pub mod Growing
pub mod Means
pub mod Spelled
pub mod Plain
pub mod PlainInts
pub mod Keeping
pub mod Once
