pub mod Equalities
pub mod Topmost
pub mod Gathering
pub mod Reporting
