pub mod Cuts
pub mod Clears
pub mod Weak
