-- The former of `Sequence`.
pub mod Sequence
