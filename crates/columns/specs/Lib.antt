-- The definitions of this crate.
pub mod Cells
pub mod Column
pub mod Lent
pub mod Rows
pub mod Texts
