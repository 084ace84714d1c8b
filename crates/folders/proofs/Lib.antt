-- The lemmas of this crate.
pub mod Each
pub mod Others
pub mod Unprinted
