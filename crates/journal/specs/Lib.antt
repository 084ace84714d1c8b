-- The definitions of this crate.
pub mod Journal
pub mod Durable
pub mod Fault
pub mod Reading
pub mod Runs
