-- The definitions of this crate.
pub mod Command
pub mod Found
pub mod Said
pub mod Steps
pub mod Usage
pub mod Words
