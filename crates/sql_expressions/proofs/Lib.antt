-- The lemmas of this crate.
pub mod Opened
pub mod Chains
pub mod Ahead
pub mod Complete
pub mod Local
pub mod LocalRules
pub mod Sound
pub mod Begun
pub mod BegunRules
