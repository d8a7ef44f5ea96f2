pub mod Sums
pub mod Clears
pub mod Queues
pub mod Marks
pub mod Sweeps
pub mod Singles
pub mod Paces
