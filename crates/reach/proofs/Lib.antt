pub mod Oks
pub mod Traversals
pub mod Exact
