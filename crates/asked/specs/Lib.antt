pub mod Asked
pub mod Header
pub mod Objects
