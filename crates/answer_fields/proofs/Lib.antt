-- The lemmas of this crate.
pub mod FromWire
pub mod Formats
pub mod ValueLaws
pub mod Groups
pub mod FieldLaws
pub mod Words
pub mod ReadFields
pub mod Shapes
