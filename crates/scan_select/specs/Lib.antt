-- The definitions of this crate.
pub mod FileGroups
pub mod Groups
pub mod Pieces
pub mod Scanned
pub mod Buffers
pub mod Selected
pub mod OnBlocks
pub mod Laws
