-- The definitions of this crate.
pub mod Copying
pub mod CutFile
pub mod Fault
pub mod Fragment
pub mod FragmentReading
pub mod Lent
pub mod Rows
pub mod View
pub mod Writing
