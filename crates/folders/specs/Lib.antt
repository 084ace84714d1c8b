-- The definitions of this crate.
pub mod Each
pub mod Folder
pub mod JournalRefusal
pub mod Refused
pub mod Lines
pub mod Tables
