-- The definitions of this crate.
pub mod Output
pub mod Fitted
pub mod Gathering
pub mod Joining
pub mod Laws
pub mod Faults
pub mod Report
pub mod Merging
pub mod Totals
