-- The lemmas of this crate.
pub mod FoundLines
pub mod Sentences
