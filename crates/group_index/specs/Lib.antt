-- The definitions of this crate.
pub mod Found
pub mod Keys
pub mod Probing
pub mod RowGroups
