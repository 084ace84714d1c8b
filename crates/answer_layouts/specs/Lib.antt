-- The definitions of this crate.
pub mod Found
pub mod Layouts
