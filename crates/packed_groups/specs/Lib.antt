-- The definitions of this crate.
pub mod Parts
pub mod Packing
pub mod Reading
pub mod Packable
