pub mod Counters
pub mod Singles
pub mod Collects
