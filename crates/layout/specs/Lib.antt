pub mod Table
pub mod Sizes
pub mod Places
pub mod Layout
pub mod Fits
pub mod Plans
