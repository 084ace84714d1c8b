-- The lemmas of this crate.
pub mod Places
pub mod Entering
pub mod ByGroup
pub mod TakenSlots
pub mod Extremes
