pub mod Finding
pub mod SettledInts
pub mod LedKeys
pub mod Steps
