pub mod Small
pub mod Freed
pub mod Runs
