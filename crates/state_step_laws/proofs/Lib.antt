pub mod Marks
pub mod Singles
pub mod Plains
pub mod Paces
pub mod Steps
