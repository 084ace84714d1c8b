-- The lemmas of this crate.
pub mod Guessing
pub mod KeyColumns
pub mod Loading
pub mod Refusals
pub mod Largest
pub mod Showing
pub mod Untried
pub mod Saying
