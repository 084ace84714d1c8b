-- The lemmas of this crate.
pub mod Ascending
pub mod Narrowing
pub mod PlainLanes
pub mod Positions
pub mod Lanes
