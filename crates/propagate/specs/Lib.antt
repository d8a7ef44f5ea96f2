pub mod Propagation
pub mod Roots
pub mod Barriers
