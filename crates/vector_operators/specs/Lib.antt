-- The definitions of this crate.
pub mod Broadcast
pub mod Evaluated
pub mod Given
pub mod LaneSets
pub mod Laws
pub mod Returned
