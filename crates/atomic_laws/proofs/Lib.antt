pub mod Alikes
pub mod Spares
pub mod Dues
pub mod Finishes
pub mod Notings
pub mod Survives
pub mod Planned
