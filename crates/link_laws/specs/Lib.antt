pub mod Agrees
pub mod Reads
pub mod Roots
