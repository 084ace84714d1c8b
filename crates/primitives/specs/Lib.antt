-- The definitions of this crate.
pub mod Fitting
pub mod Meant
pub mod Narrowed
pub mod Nodes
