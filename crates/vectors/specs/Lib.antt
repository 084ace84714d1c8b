-- The definitions of this crate.
pub mod Selection
pub mod Lanes
pub mod Vector
