pub mod Turns
pub mod Collections
pub mod Mixtures
pub mod Finalizes
pub mod Outcomes
