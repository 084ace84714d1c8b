-- The definitions of this crate.
pub mod Bytes
pub mod Reading
pub mod Writing
