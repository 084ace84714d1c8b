-- The definitions of this crate.
pub mod Block
pub mod Dictionary
pub mod DictionaryView
pub mod Frame
pub mod Kind
pub mod Numbers
pub mod Plain
pub mod Runs
pub mod RunsView
pub mod VectorBuf
