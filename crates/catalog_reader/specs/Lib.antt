-- The definitions of this crate.
pub mod CatalogLine
pub mod CatalogTables
pub mod CatalogText
