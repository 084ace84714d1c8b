-- Lemmas of this crate.
pub mod Among
pub mod Choosing
pub mod Composes
pub mod Flags
pub mod LaneValues
pub mod Least
pub mod MarkedLanes
pub mod Narrowed
pub mod Parts
pub mod SmallReturned
pub mod Tested
pub mod Typed
