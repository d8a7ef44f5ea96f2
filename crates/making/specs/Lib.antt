pub mod Making
pub mod Answers
pub mod Turns
