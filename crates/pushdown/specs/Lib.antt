-- The definitions of this crate.
pub mod FactColumn
pub mod Naming
pub mod Pushdown
