pub mod Ops
pub mod Words
pub mod Marking
pub mod Shades
