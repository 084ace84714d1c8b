-- The lemmas of this crate.
pub mod Fronts
pub mod Passing
pub mod Walking
