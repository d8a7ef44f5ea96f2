pub mod Stores
pub mod Reads
pub mod Bodies
pub mod Writers
pub mod Nodes
pub mod Texts
pub mod Mains
