-- The definitions of this crate.
pub mod BlockText
pub mod CutText
pub mod Fields
pub mod HeaderText
pub mod TableText
