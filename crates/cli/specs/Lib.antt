-- The definitions of this crate.
pub mod Lines
pub mod Refusing
pub mod Running
pub mod Status
pub mod WholeRefusal
