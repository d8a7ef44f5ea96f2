pub mod Cursor
pub mod Sweeping
pub mod Rooms
