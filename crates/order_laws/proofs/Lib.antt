pub mod Orders
pub mod Hands
pub mod Handed
