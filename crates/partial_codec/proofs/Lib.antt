-- The lemmas of this crate.
pub mod Fitting
pub mod Steps
pub mod Answers
pub mod Words
pub mod Judging
pub mod States
pub mod Layouts
pub mod WrittenStates
pub mod StateLayouts
pub mod Batches
