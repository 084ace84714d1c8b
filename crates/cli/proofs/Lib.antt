-- The lemmas of this crate.
mod AskedFiles
mod Questions
pub mod RefusalDetails
mod Refusals
