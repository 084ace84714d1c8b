-- The definitions of this crate.
pub mod Columns
pub mod Counting
pub mod Fault
pub mod Handing
pub mod Keys
pub mod Source
pub mod Steps
