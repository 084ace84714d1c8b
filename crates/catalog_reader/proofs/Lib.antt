-- The lemmas of this crate.
pub mod LastTable
pub mod CatalogSteps
pub mod SoundTables
pub mod WellFormedCatalog
pub mod FirstFault
