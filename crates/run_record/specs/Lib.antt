pub mod Closures
pub mod Upvalues
pub mod Threads
