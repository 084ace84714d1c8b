-- The definitions of this crate.
pub mod Cell
pub mod Choice
pub mod Choosing
pub mod Encoded
pub mod Entries
pub mod Fault
pub mod Slots
