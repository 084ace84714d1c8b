-- The lemmas of this crate.
pub mod Numbers
pub mod Parts
pub mod Loops
pub mod Seals
pub mod Written
