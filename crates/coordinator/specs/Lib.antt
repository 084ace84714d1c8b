-- The definitions of this crate.
pub mod Fragment
pub mod Whole
