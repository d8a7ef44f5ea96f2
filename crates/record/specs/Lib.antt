pub mod Fields
pub mod Strings
pub mod Bytes
pub mod Tables
pub mod Userdata
