-- The definitions of this crate.
pub mod Fault
pub mod Shape
pub mod Format
pub mod Spelling
pub mod Ranges
pub mod LayoutReading
pub mod StateSpelling
pub mod Keeping
pub mod Fields
