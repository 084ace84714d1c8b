-- The definitions of this crate.
pub mod Shape
pub mod Groups
pub mod Rows
pub mod GroupIndexes
pub mod Combined
pub mod KeyOrder
pub mod OrderedGroups
