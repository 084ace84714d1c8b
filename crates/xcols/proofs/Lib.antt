-- The lemmas of this crate.
mod Flags
