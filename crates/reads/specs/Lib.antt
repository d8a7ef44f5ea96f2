pub mod Reads
pub mod Objects
