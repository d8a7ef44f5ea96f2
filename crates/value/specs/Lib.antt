pub mod Numbers
pub mod Values
pub mod Handles
pub mod Laws
