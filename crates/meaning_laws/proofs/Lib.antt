-- The lemmas of this crate.
pub mod Combine
pub mod Cells
pub mod Cuts
pub mod HeadlineLaw
pub mod Joins
pub mod Schedules
pub mod Absorb
pub mod Filters
pub mod LoadedRows
pub mod LoadedTables
pub mod LoadedQueries
pub mod FittingGroups
mod WorkedExpressions
mod WorkedLike
mod WorkedTables
mod Worked
mod WorkedFaults
mod WorkedGroups
mod WorkedDistinct
mod WorkedGathering
mod WorkedRecords
mod WorkedTypes
mod WorkedFitting
pub mod UniqueKeys
pub mod Reports
pub mod Fragments
pub mod StatisticsFit
pub mod KeptRows
pub mod OwnFits
pub mod OwnStates
