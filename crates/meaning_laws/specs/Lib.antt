-- The definitions of this crate.
pub mod Heard
pub mod Running
pub mod Laws
