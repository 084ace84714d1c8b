-- The definitions of this crate.
pub mod Loading
pub mod Refusing
