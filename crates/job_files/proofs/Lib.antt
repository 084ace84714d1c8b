-- The lemmas of this crate.
pub mod FileColumns
pub mod FilesRead
pub mod FirstRows
pub mod GivenInput
pub mod KeyedRows
pub mod OpenedDimensions
pub mod PlanDimensions
pub mod RowFiles
pub mod Tables
pub mod UsedColumns
