pub mod Tallies
pub mod Payments
pub mod Steps
pub mod Queues
pub mod Cycles
pub mod Walks
pub mod Atomics
