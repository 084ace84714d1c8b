-- The definitions of this crate.
pub mod Shapes
pub mod Tables
