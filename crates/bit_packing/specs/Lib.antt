-- The definitions of this crate.
pub mod Bits
pub mod Bytes
pub mod Offsets
pub mod Packing
pub mod Widths
