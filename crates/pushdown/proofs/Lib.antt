-- The lemmas of this crate.
pub mod Faultless
pub mod NamedColumn
pub mod NamedIn
pub mod Tested
