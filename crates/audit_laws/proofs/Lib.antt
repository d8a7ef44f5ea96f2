pub mod Walks
pub mod Handles
pub mod Says
