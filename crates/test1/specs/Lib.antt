pub mod Test1
pub mod Calls
pub mod Rows
