-- The definitions of this crate.
pub mod Coming
pub mod Fields
pub mod Located
pub mod Reader
pub mod Source
