-- The definitions of this crate.
pub mod Job
pub mod Spelling
pub mod Answer
pub mod State
pub mod Holding
