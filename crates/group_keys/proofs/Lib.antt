pub mod Ascending
pub mod KeyRows
pub mod CloseInts
pub mod Texts
pub mod SelectedInts
pub mod IntKeys
