pub mod Ways
pub mod Loop
pub mod Words
pub mod Heap
pub mod Refusals
