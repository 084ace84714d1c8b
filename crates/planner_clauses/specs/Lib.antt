pub mod Checked
pub mod Conjuncts
pub mod Aggregates
pub mod Groups
pub mod Shown
