-- The definitions of this crate.
pub mod AnyAcc
pub mod Cells
pub mod Columns
pub mod Ordered
