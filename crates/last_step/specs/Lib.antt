-- The definitions of this crate.
pub mod Given
pub mod Runs
pub mod Fitting
pub mod Batches
pub mod Lent
pub mod Printing
pub mod PrintFaults
pub mod Best
