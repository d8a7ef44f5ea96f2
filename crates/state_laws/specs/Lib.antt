pub mod State
pub mod Plains
pub mod Rooms
pub mod Takes
pub mod Barriers
