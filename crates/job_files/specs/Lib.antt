-- The definitions of this crate.
pub mod Fault
pub mod Files
pub mod Inputs
pub mod RowFiles
pub mod Dimensions
pub mod Tables
