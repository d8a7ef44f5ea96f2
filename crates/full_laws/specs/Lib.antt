pub mod Calm
pub mod Idle
pub mod Full
pub mod Finishes
