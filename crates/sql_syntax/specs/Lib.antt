-- The definitions of this crate.
pub mod Words
pub mod Tokens
pub mod Canonical
pub mod Strength
pub mod Phrases
pub mod CanonicalTokens
pub mod Queries
pub mod Quoting
pub mod Literals
pub mod Printing
pub mod Joins
