-- The definitions of this crate.
pub mod Rows
pub mod Shown
