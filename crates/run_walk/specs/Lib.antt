pub mod Prototypes
pub mod Closures
pub mod Threads
pub mod MainThread
