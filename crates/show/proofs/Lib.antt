-- The lemmas of this crate.
pub mod RowsShown
pub mod StateSpelled
pub mod TableRead
pub mod Begins
pub mod CutRead
pub mod Parts
pub mod Printed
