pub mod News
pub mod Sounds
pub mod Pauses
pub mod Publics
