-- The lemmas of this crate.
pub mod Took
pub mod Showing
pub mod Cells
pub mod Gates
pub mod Lists
pub mod Magics
pub mod Neighbours
pub mod Sums
pub mod KnownShown
pub mod GroupShown
pub mod BodyShown
pub mod SealShown
pub mod Spelled
pub mod CellRead
