pub mod Kept
pub mod InQueue
pub mod Bodies
pub mod Separates
pub mod Notes
pub mod Spares
pub mod Alikes
