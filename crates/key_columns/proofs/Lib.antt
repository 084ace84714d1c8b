pub mod Taking
pub mod KeyRows
pub mod Ends
pub mod ColumnOrder
