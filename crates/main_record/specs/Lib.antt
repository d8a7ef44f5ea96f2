pub mod Parts
pub mod Prototypes
pub mod Main
