-- The definitions of this crate.
pub mod Places
pub mod Conditions
pub mod Explaining
