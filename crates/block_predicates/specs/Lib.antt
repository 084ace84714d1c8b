-- The definitions of this crate.
pub mod Entries
pub mod Marks
pub mod Predicate
