-- The definitions of this crate.
pub mod Findings
pub mod Shown
pub mod Keys
pub mod Making
pub mod Refusing
pub mod Guessed
pub mod Guessing
pub mod Saying
