-- The definitions of this crate.
pub mod FileDisk
pub mod Progress
pub mod Request
