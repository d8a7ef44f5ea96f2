pub mod Tiles
pub mod Parts
