pub mod Freed
pub mod Gone
