pub mod Places
pub mod Mains
pub mod Threads
pub mod Objects
pub mod Protos
