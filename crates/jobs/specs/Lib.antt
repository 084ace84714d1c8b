-- The definitions of this crate.
pub mod Gathering
pub mod Job
pub mod Laws
pub mod PassedOver
pub mod Taking
pub mod Working
