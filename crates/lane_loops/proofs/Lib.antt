-- The lemmas of this crate.
pub mod Chosen
pub mod Filling
pub mod FillingAt
pub mod FirstFlag
pub mod Likes
pub mod PatternParts
pub mod Returned
pub mod SmallResults
