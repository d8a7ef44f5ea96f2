pub mod Batches
pub mod Places
pub mod Turns
pub mod Repaints
pub mod Collections
pub mod Mixtures
pub mod Finalizes
