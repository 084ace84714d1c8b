-- The definitions of this crate.
pub mod Sets
pub mod Marks
pub mod Slots
