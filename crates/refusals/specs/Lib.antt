-- The definitions of this crate.
pub mod Codes
pub mod Lines
pub mod Texts
