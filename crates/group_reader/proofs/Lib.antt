-- The lemmas of this crate.
pub mod BlockSteps
pub mod FrontSteps
pub mod HeaderSteps
pub mod Pieces
pub mod Reading
pub mod Sealed
pub mod Streams
pub mod Telling
pub mod Turns
pub mod Words
