-- The lemmas of this crate.
pub mod Alikes
pub mod Totals
pub mod ColumnsShown
pub mod GroupsShown
