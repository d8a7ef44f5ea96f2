pub mod Reached
pub mod Cycle
pub mod Tri
pub mod OnLists
pub mod Shades
pub mod Oks
pub mod Exact
