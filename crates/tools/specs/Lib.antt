-- The definitions of this crate.
pub mod Explained
pub mod Running
pub mod Said
pub mod Words
