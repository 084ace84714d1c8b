-- The definitions of this crate.
pub mod DimConditions
pub mod Opened
pub mod Evaluated
pub mod Work
pub mod Packed
pub mod Joining
pub mod Gathered
pub mod Held
