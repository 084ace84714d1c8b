-- Lemmas of this crate.
pub mod Arms
pub mod Columns
pub mod Composed
pub mod ExprNodes
pub mod Fitted
pub mod Keeping
pub mod Lists
pub mod Loops
pub mod NodeGives
pub mod Steps
pub mod VectorGives
