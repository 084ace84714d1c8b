pub mod Planned
pub mod PlanOf
pub mod Typed
pub mod Sound
pub mod QueryText
pub mod Forms
pub mod Limited
pub mod DeclaredPlans
