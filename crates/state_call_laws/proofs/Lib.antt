pub mod Nests
pub mod Written
pub mod Protos
pub mod Closures
pub mod Makes
