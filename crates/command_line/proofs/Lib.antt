-- The lemmas of this crate.
pub mod Among
mod Opened
mod Steps
mod Taken
mod Values
