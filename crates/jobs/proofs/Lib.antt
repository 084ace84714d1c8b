-- The lemmas of this crate.
mod Together
mod SameFiles
pub mod OwnAnswers
pub mod OwnFiles
mod TakenFiles
mod Refusals
mod FirstUnread
mod Gathered
mod Printed
mod ReadFiles
mod Unwritten
