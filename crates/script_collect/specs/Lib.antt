pub mod Collects
pub mod Laws
