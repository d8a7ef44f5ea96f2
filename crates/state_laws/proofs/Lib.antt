pub mod Takes
pub mod Begins
