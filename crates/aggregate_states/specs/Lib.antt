-- The definitions of this crate.
pub mod Values
pub mod State
pub mod Entries
pub mod Laws
pub mod StateLaws
pub mod Kinds
pub mod Fault
