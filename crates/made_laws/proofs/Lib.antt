pub mod News
pub mod Sounds
pub mod Pauses
pub mod Freed
pub mod Opens
pub mod Publics
pub mod Starts
