-- The lemmas of this crate.
pub mod CountedRows
pub mod Slices
pub mod FragmentColumns
pub mod Planned
pub mod FoundFiles
pub mod InTurn
pub mod TableFaults
pub mod TableFiles
pub mod Returned
pub mod Runs
pub mod Ends
pub mod AcceptedFiles
