pub mod Strings
pub mod Entries
