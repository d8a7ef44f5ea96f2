pub mod Tests
pub mod Walks
pub mod Handles
pub mod Says
