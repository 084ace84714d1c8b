-- The definitions of this crate.
pub mod Front
pub mod Lines
pub mod Taking
