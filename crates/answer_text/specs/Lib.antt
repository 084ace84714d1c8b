-- The definitions of this crate.
pub mod Journals
pub mod Ranges
pub mod Reading
pub mod Shares
pub mod StateTexts
pub mod Texts
pub mod Values
